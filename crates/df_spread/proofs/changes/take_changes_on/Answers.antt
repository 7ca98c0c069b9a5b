use Rattle.std.proofs.Common.{◌≡◌, ◌∷◌, length, ap, ◌∙◌, arith, rules}
use Rattle.std.specs.Prelude.{Option}
use Rattle.std.specs.Option.{option_map}
use Rattle.df_model.specs.Values.{Bytes}
use Rattle.df_model.specs.Values as plain
use Rattle.df_values.specs.Seen.{seen}
use Rattle.df_spread.specs.Spread.{changes_seen}
use Rattle.df_spread.proofs.WrittenLaws.{next_once, next_others, next_key}
use Rattle.df_spread.proofs.changes.take_changes_on.Goals as goal

pub keys-preserved : goal.keys-preserved
keys-preserved c =
    let K = c.keys.table.keys in
    let L = c.take_change.new.table.keys in
    let before = c.keys.invariant in
    let old = changes_seen c.keys.key-iterator.rest.items in
    let rest = changes_seen c.next.new.self.rest.items in
    let next : c.keys.key-iterator.rest.items ≡ (c.in-Some.key, c.in-Some.before) ∷ c.next.new.self.rest.items = search rules in
    let taken : Bytes × Option plain.Value = (c.in-Some.key, option_map seen c.in-Some.before) in
    let split : old ≡ taken ∷ rest = ap changes_seen next in
    let others = c.take_change.ensures.others in
    record {
      so_far = next_key K L taken old rest split others _ _ _ before.once c.take_change.ensures.changes before.so_far;
      once = (next_once K L taken old rest split others before.once).1;
      room = omega (arith, ap length next, before.room, c.take_change.ensures.spare);
      others = λ key h.
          let so = before.others key h in
          let step = next_others K L taken old rest split others key so.0 in
          (step.0, step.1 ∙ so.1);
    }
