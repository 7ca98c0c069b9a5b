use Rattle.std.proofs.Common.{◌≡◌, ◌+◌, ◌<◌, ◌∷◌, length, drop, sym, ap, subst, ◌∙◌, rules}
use Rattle.std.proofs.lemmas.List.{drop_more}
use Rattle.df_spread.specs.Gathered.{AreAsMany}
use Rattle.df_spread.proofs.GatherLaws.{as_many, some_left, next_many}
use Rattle.df_spread.proofs.gather.told_table.Goals as goal

pub shards-init : goal.shards-init
shards-init c =
    let many = as_many c.args.keys.now c.args.values.items c.requires in
    search rules

pub put_values-requires-clause-count : goal.put_values-requires-clause-count
put_values-requires-clause-count c =
    let keys = c.args.keys.now in
    let n = c.shards.shard in
    let modes = c.index-keys-shard.result in
    let told = c.in-Some.told in
    let rest = c.next.new.self.rest.items in
    let next : c.shards.told-iterator.rest.items ≡ told ∷ rest = search rules in
    let many : AreAsMany (drop n keys) (told ∷ rest) = subst (AreAsMany (drop n keys)) next c.shards.invariant.many in
    let lt : n < length keys = some_left n keys told rest many in
    let split : drop n keys ≡ modes ∷ drop (n + 1) keys =
    drop_more keys n modes lt ∙ ap (λ m. m ∷ drop (n + 1) keys) (sym c.index-keys-shard.is) in
    (next_many (drop n keys) (drop (n + 1) keys) modes told rest split many).0 ∙ ap length (sym c.as_slice.ensures)
