use Rattle.std.proofs.Common.{◌≡◌, [], ◌∷◌, map, ap, ◌∙◌, rules}
use Rattle.std.proofs.lemmas.List.{map-append}
use Rattle.df_spread.specs.Spread.{changes_seen}
use Rattle.df_spread.proofs.WrittenLaws.{next_apart, next_changes}
use Rattle.df_spread.proofs.changes.take_changes.Goals as goal

pub shards-preserved : goal.shards-preserved
shards-preserved c =
    let K = c.shards.table.keys in
    let L = c.take_changes_on.new.table.keys in
    let before = c.shards.invariant in
    let next : c.shards.written-iterator.rest.items ≡ c.in-Some.written ∷ c.next.new.self.rest.items = search rules in
    let taken = changes_seen c.in-Some.written.items in
    let new = changes_seen c.in_ok-take_changes_on.field-0.items in
    let old = map (λ w. changes_seen w.items) c.shards.written-iterator.rest.items in
    let rest = map (λ w. changes_seen w.items) c.next.new.self.rest.items in
    let split : old ≡ taken ∷ rest = ap (map (λ w. changes_seen w.items)) next in
    let others = c.in_ok-take_changes_on.ensures.others in
    record {
      so_far = next_changes K L taken new old rest split before.apart others _ _ _
          (ap (map (λ w. changes_seen w.items)) c.in_ok-push.ensures.items
          ∙ map-append (λ w. changes_seen w.items) c.shards.changes.items (c.in_ok-take_changes_on.field-0 ∷ []))
          c.in_ok-take_changes_on.ensures.changes before.so_far;
      apart = (next_apart K L taken new old rest split before.apart others).2;
    }
