use Rattle.std.proofs.Common.{◌≡◌, ◌<◌, ◌∷◌, ◌+◌, drop, get_or, length, sym, ap, ◌∙◌, arith, rules}
use Rattle.std.proofs.lemmas.List.{length-set}
use Rattle.df_footprints.specs.Footprints.{some_keys}
use Rattle.df_keys.specs.Gathered.{entries_at, entries_of}
use Rattle.df_keys.proofs.GatheredLaws.{entries-get, next_of, put-more}
use Rattle.df_keys.proofs.put.put_gathered.Goals as goal

pub shards-preserved : goal.shards-preserved
shards-preserved c =
    let keys = c.shards.keys.items in
    let maps = c.args.maps.items in
    let t = c.shards.shard in
    let modes = c.in-Some.modes in
    let rest = c.next.new.self.rest.items in
    let next : c.shards.modes-iterator.rest.items ≡ modes ∷ rest = search rules in
    let split : (t < length maps) × (modes ≡ get_or maps t modes) × (rest ≡ drop (t + 1) maps) =
    next_of maps t modes rest (sym c.shards.invariant.left ∙ next) in
    let here : t < length keys = omega (arith, c.shards.invariant.count, split.0) in
    record {
      count = length-set keys t c.in_ok-keys.field-0 ∙ c.shards.invariant.count;
      left = split.2;
      put = put-more keys t c.in_ok-keys.field-0 (λ s. some_keys (entries_at s maps)) here c.shards.invariant.put
          (c.in_ok-keys.ensures ∙ ap (λ m. some_keys (entries_of m)) split.1 ∙ ap some_keys (sym (entries-get maps t modes split.0)));
    }
