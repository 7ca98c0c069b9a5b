use Rattle.std.proofs.Common.{◌≡◌, length, map}
use Rattle.df_model.specs.Reads.{reads_by}
use Rattle.df_model.specs.Reads.Shapes.{row}
use Rattle.df_parse.specs.Readers.{shape_of}
use Rattle.df_parse.proofs.table.read_in.Given as goal

abbrev pub invariant-rows : goal.invariant-rows
invariant-rows l = reads_by (map (λ r. row r.0.now (shape_of r.1 r.0.now)) l.rows) l.name l.words ≡ reads_by (map (λ r. row r.0.now (shape_of r.1 r.0.now)) l.initial.rows) l.name l.words

abbrev pub decreases-rows : goal.decreases-rows
decreases-rows l = length l.rows
