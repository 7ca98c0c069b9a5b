use Rattle.std.proofs.Common.{◌≡◌, ◌+◌, ◌≤◌, drop, length, sym, ap, subst, ◌∙◌, arith}
use Rattle.std.specs.FinMap.{entries, len-entries}
use Rattle.std.specs.List.{filter}
use Rattle.std.proofs.lemmas.List.{length-map, drop_all}
use Rattle.df_model.specs.Members as members
use Rattle.df_model.specs.Patterns.{is_match}
use Rattle.df_turn.proofs.MatchLaws.{counts-match, counts-other}
use Rattle.df_turn.proofs.whole.matching.Goals as goal
use Rattle.df_turn.proofs.whole.matching.Goals.{then-glob, else-glob}

pub names-preserved : goal.names-preserved
names-preserved c =
    let p = is_match c.args.pattern.now in
    let items = members.items c.args.names.now.members in
    let all = length (filter p items) in
    let tested = ap p (sym c.as_slice.ensures) ∙ sym c.glob.ensures in
    elim c.if-glob.branch [
      | then-glob w ↦ record {
        few = omega (arith, w.count-is);
        all = subst (λ n. n + length (filter p (drop (c.names.i + 1) items)) ≡ all) (sym w.count-is)
            (counts-match p items c.names.i c.name_at.result.now c.name_at.ensures c.names.count all (tested ∙ w.if-glob.true) c.names.invariant.all);
      }
      | else-glob w ↦ record {
        few = omega (arith, w.count-is);
        all = subst (λ n. n + length (filter p (drop (c.names.i + 1) items)) ≡ all) (sym w.count-is)
            (counts-other p items c.names.i c.name_at.result.now c.name_at.ensures c.names.count all (tested ∙ w.if-glob.false) c.names.invariant.all);
      }
    ]

pub returns : goal.returns
returns c =
    let names = c.args.names.now.members in
    let p = is_match c.args.pattern.now in
    let count = len-entries names ∙ sym (length-map (entries names) (λ e. e.0)) in
    let past : length (members.items names) ≤ c.names.i = omega (arith, count, c.len-i-end.ensures, c.names-test.false) in
    omega (arith, c.names.invariant.all, ap (λ l. length (filter p l)) (drop_all c.names.i (members.items names) past))
