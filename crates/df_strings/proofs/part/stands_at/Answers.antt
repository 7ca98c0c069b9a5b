use Rattle.std.proofs.Common.{◌≡◌, ◌+◌, ◌≤◌, true, length, arith, rules}
use Rattle.std.proofs.lemmas.Slice.Eq.{slice_eq-Decides}
use Rattle.std.proofs.lemmas.Bool.Decides.{Decides-eqb}
use Rattle.df_strings.proofs.WriteLaws.{stands, stood}
use Rattle.df_strings.proofs.part.stands_at.Goals as goal

pub returns : goal.returns
returns c =
    let inside : c.args.at + length c.args.new.now ≤ length c.args.bytes.now = omega arith in
    let same = slice_eq-Decides Decides-eqb _ _ c.eq.result c.eq.ensures in (
      λ e. let yes : c.eq.result ≡ true = search rules in stands c.args.at c.args.new.now c.args.bytes.now inside (same.0 yes),
      λ e. let yes : c.eq.result ≡ true = same.1 (stood c.args.at c.args.new.now c.args.bytes.now inside e) in search rules,
    )
