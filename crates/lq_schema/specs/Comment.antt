-- The columns on a comment.
use Rattle.std.specs.Prelude.{List, codes, [], ◌∷◌}
use Rattle.lq_schema.specs.Heading.{Heading, heading}
use Rattle.lq_schema.specs.declared.comment.CommentColumn.{CommentColumn}
use Rattle.lq_schema.specs.declared.comment.CommentColumn.TheVariants as comment
use Rattle.lq_schema.specs.declared.columns.ColKind.TheVariants as kind

abbrev pub comment_heading : CommentColumn → Heading
comment_heading comment.Id = heading (codes "id") kind.Int
comment_heading comment.Author = heading (codes "author") kind.Str
comment_heading comment.Comment = heading (codes "comment") kind.Str
comment_heading comment.EntryTime = heading (codes "entry_time") kind.Int
comment_heading comment.EntryType = heading (codes "entry_type") kind.Int
comment_heading comment.Persistent = heading (codes "persistent") kind.Int
comment_heading comment.IsService = heading (codes "is_service") kind.Int

-- in order
abbrev pub comment_columns : List CommentColumn
comment_columns =
    comment.Id ∷ comment.Author ∷ comment.Comment ∷ comment.EntryTime ∷ comment.EntryType
    ∷ comment.Persistent ∷ comment.IsService ∷ []
