use Rattle.std.proofs.Common.{sym, ap, ◌∙◌, arith}
use Rattle.df_log.specs.Changes.{with_changes}
use Rattle.df_shard.specs.Holds.{changes_seen}
use Rattle.df_shard.proofs.PartLaws.{Change, shown-last, puts-last}
use Rattle.df_shard.proofs.parts.apply.Goals as goal

pub show-requires : goal.show-requires
show-requires c =
    let puts = puts-last c.changes.staged.items c.pop.new.self.items (c.in-Some.key, c.in-Some.value) c.in-Some.ensures.0 in
    omega (arith, puts, c.changes.invariant.kept, c.requires)

pub changes-preserved : goal.changes-preserved
changes-preserved c =
    let all = c.changes.staged.items in
    let left = c.pop.new.self.items in
    let last : Change = (c.in-Some.key, c.in-Some.value) in
    record {
      keys = ap (with_changes (changes_seen left)) c.show.ensures.keys
          ∙ sym (shown-last all left last c.changes.table.keys c.in-Some.ensures.0) ∙ c.changes.invariant.keys;
      kept = omega (arith, puts-last all left last c.in-Some.ensures.0, c.changes.invariant.kept, c.show.ensures.kept);
    }
