-- Whether the same is told is decided.
use Rattle.std.proofs.Common.{◌≡◌, ℕ, ℤ, Bool, true, false, Decides, List, refl, sym, ap}
use Rattle.std.proofs.lemmas.Bool.Decides.{Decides-and, Decides-int_eq, Decides-like}
use Rattle.std.proofs.lemmas.Slice.Eq.{bytes_eq-Decides}
use Rattle.lq_statehist.specs.Facts.{Facts}
use Rattle.lq_statehist.specs.Tiling.{is_same_flag, same_facts}

decides_same : (a b : Bool) → Decides (is_same_flag a b) (a ≡ b)
decides_same true true = (λ is. refl, λ is. refl)
decides_same true false = (λ is. sym is, λ is. sym is)
decides_same false true = (λ is. is, λ is. is)
decides_same false false = (λ is. refl, λ is. refl)

abbrev made : ℤ → List ℕ → Bool → Bool → Bool → Bool → Bool → Facts
made state output down downtime host_downtime flapping period = record {
  state = state;
  output = output;
  host_down = down;
  in_downtime = downtime;
  in_host_downtime = host_downtime;
  is_flapping = flapping;
  in_period = period;
}

made_same : (s t : ℤ) (o p : List ℕ) (a b c d e f g h i j : Bool)
    → (((((((s ≡ t) × (o ≡ p)) × (a ≡ b)) × (c ≡ d)) × (e ≡ f)) × (g ≡ h)) × (i ≡ j))
    → made s o a c e g i ≡ made t p b d f h j
made_same s t o p a b c d e f g h i j parts =
    rw (parts.0.0.0.0.0.0, parts.0.0.0.0.0.1, parts.0.0.0.0.1, parts.0.0.0.1, parts.0.0.1, parts.0.1, parts.1) refl

pub facts_decide : (a b : Facts) → Decides (same_facts a b) (a ≡ b)
facts_decide a b =
    Decides-like (same_facts a b)
    (λ parts. made_same a.state b.state a.output b.output a.host_down b.host_down a.in_downtime b.in_downtime a.in_host_downtime b.in_host_downtime a.is_flapping b.is_flapping a.in_period b.in_period parts)
    (λ same. ((((((ap (λ facts. facts.state) same, ap (λ facts. facts.output) same), ap (λ facts. facts.host_down) same), ap (λ facts. facts.in_downtime) same), ap (λ facts. facts.in_host_downtime) same), ap (λ facts. facts.is_flapping) same), ap (λ facts. facts.in_period) same))
    (Decides-and _ _ (Decides-and _ _ (Decides-and _ _ (Decides-and _ _ (Decides-and _ _ (Decides-and _ _
    (Decides-int_eq a.state b.state) (bytes_eq-Decides a.output b.output))
    (decides_same a.host_down b.host_down))
    (decides_same a.in_downtime b.in_downtime))
    (decides_same a.in_host_downtime b.in_host_downtime))
    (decides_same a.is_flapping b.is_flapping))
    (decides_same a.in_period b.in_period))

pub same_self : (a : Facts) → same_facts a a ≡ true
same_self a = (facts_decide a a).1 refl
