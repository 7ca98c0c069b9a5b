use Rattle.std.proofs.Common.{◌≡◌, ◌+◌, ◌<◌, [], ◌∷◌, ◌++◌, map, length, take, get_or, sym, ap, ◌∙◌, arith}
use Rattle.std.specs.Option.{option_map}
use Rattle.std.proofs.lemmas.List.{length_push}
use Rattle.df_model.specs.Keyspace.{with_held}
use Rattle.df_values.specs.Seen.{seen}
use Rattle.df_core.specs.Due.{with_values}
use Rattle.df_spread.specs.Gathered.{keys_in}
use Rattle.df_spread.proofs.GatherLaws.{last_put}
use Rattle.df_spread.proofs.gather.put_values.Goals as goal

pub keys-preserved : goal.keys-preserved
keys-preserved c =
    let keys = c.args.keys.now in
    let old = c.keys.values.items in
    let new = c.pop.new.self.items in
    let last = c.in-Some.value in
    let m = c.index-keys-len.result in
    let before = c.keys.invariant in
    let split : old ≡ new ++ last ∷ [] = c.in-Some.ensures.0 in
    let more : length old ≡ length new + 1 = ap length split ∙ length_push new last in
    let lt : length new < length keys = omega (arith, before.count, more) in
    let is : m ≡ get_or keys (length new) m = c.index-keys-len.is ∙ ap (λ n. get_or keys n m) c.len.ensures in
    record {
      left = ap (with_values (take (length new) (keys_in keys)) (map (option_map seen) new))
          (c.in_ok-put_value.ensures.keys ∙ ap (λ x. with_held c.keys.table.keys x.0 (option_map seen last)) (sym c.index-keys-len.is))
          ∙ sym (last_put keys old new last m c.keys.table.keys split lt is)
          ∙ before.left;
      count = omega (arith, lt);
      spare = omega (arith, before.spare, more, c.in_ok-put_value.ensures.spare);
    }
