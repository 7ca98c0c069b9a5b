use Rattle.std.proofs.Common.{subst, ap, sym, ◌∙◌, refl, length}
use Rattle.df_model.specs.Reads.{reads_by}
use Rattle.df_parse.specs.Reading.{AsRead}
use Rattle.df_parse.specs.Parts.{in_part}
use Rattle.df_parse.proofs.PartLaws.{read_begun}
use Rattle.df_parse.proofs.table.read_row.Goals as goal

pub returns : goal.returns
returns c =
    let name = c.args.name.now in
    subst (λ reading. AsRead reading c.read_in.result c.read_in.new.command)
    (ap (λ table. reads_by table name c.args.words.now) c.rows_of.ensures
    ∙ sym (read_begun (in_part c.initial_of.result) (length name) name c.args.words.now c.initial_of.ensures refl))
    c.read_in.ensures
