use Rattle.std.proofs.Common.{[], ◌∷◌, ◌++◌, length, replicate, ap, ◌∙◌, arith}
use Rattle.std.specs.Fmt.{decimal}
use Rattle.lq_output.proofs.HeaderLemmas.{code_written, few_digits, header_written, three_digits}
use Rattle.lq_output.proofs.header.fixed16.Goals as goal

pub write_digits-requires : goal.write_digits-requires
write_digits-requires c =
    let three = ap (λ n. length (decimal n)) c.from.ensures ∙ three_digits c.args.code c.requires.least c.requires.most in
    (omega arith, omega arith)

pub write_digits-requires-2 : goal.write_digits-requires-2
write_digits-requires-2 c =
    let few = few_digits c.args.len c.requires.len in
    (omega arith, omega arith)

pub returns : goal.returns
returns c =
    let three = three_digits c.args.code c.requires.least c.requires.most in
    let begun = code_written c.args.code c.write_digits.result c.write_digits.new.buf (replicate 12 32 ++ 10 ∷ []) three
    (rw c.from.ensures at c.write_digits.ensures.start) (rw c.from.ensures at c.write_digits.ensures.written) in
    header_written c.args.code c.args.len c.write_digits-2.result c.write_digits.new.buf c.write_digits-2.new.buf three (few_digits c.args.len c.requires.len) begun
    c.write_digits-2.ensures.start c.write_digits-2.ensures.written c.write_digits-2.ensures.before
