use Rattle.std.proofs.Common.{◌≡◌, ◌+◌, ◌-◌, ◌≤◌, ◌^◌, cond, sym, ap, subst, ◌∙◌}
use Rattle.std.specs.Prelude.{None, min, if◌then◌else◌}
use Rattle.std.specs.HashMap as map
use Rattle.df_intents.specs.Holders.{room_of, holds, is_free, keys_of}
use Rattle.df_intents.specs.Counting.{held}
use Rattle.df_intents.specs.Kept.{Kept}
use Rattle.df_intents.specs.declared.grant.Grant.TheVariants.{Free, Waits}
use Rattle.df_intents.proofs.HolderLaws.{not_held}
use Rattle.df_intents.proofs.KeptLaws.{fits, granted, kept_taken, spare_taken}
use Rattle.df_intents.proofs.intents.Intents.take.Goals as goal
use Rattle.df_intents.proofs.intents.Intents.take.Goals.{then-is_opposed, else-is_opposed}

pub invariant_of-self : goal.invariant_of-self
invariant_of-self c =
    let inside = c.self.inside in
    let hs = inside.trail.holders in
    let keys = c.args.keys in
    let index = c.enter-is_opposed.new.self in
    let fs = c.insert.new.self.entries in
    let rest = min (map.spare inside.holders) (map.spare inside.index.tallies) in
    let room = subst (λ v. room_of keys ≤ v.spare) (sym c.self.view_is) c.requires.room in
    let fit = fits inside.holders.entries inside.index index hs c.args.number keys c.self.invariant rest room in
    let absent : keys_of c.args.number hs ≡ None = not_held c.args.number hs (ap (λ v. holds c.args.number v.holders) c.self.view_is ∙ c.requires.new) in
    subst (Kept fs index) (sym c.take.ensures)
    (kept_taken inside.holders.entries inside.index index hs c.args.number keys c.self.invariant fs absent c.in-Ok.ensures.updates.0 c.in-Ok.field-0 c.in-Ok.ensures.old c.in-Ok.ensures.len (c.enter-is_opposed.ensures.counts (held hs) fit c.self.invariant.counted))

pub returns-clause-grant : goal.returns-clause-grant
returns-clause-grant c =
    let inside = c.self.inside in
    let hs = inside.trail.holders in
    let keys = c.args.keys in
    let index = c.enter-is_opposed.new.self in
    let rest = min (map.spare inside.holders) (map.spare inside.index.tallies) in
    let room = subst (λ v. room_of keys ≤ v.spare) (sym c.self.view_is) c.requires.room in
    let fit = fits inside.holders.entries inside.index index hs c.args.number keys c.self.invariant rest room in
    let exact = c.enter-is_opposed.ensures.exact hs c.self.invariant.once c.self.invariant.known fit c.self.invariant.counted in
    let told : c.if-is_opposed.result ≡ cond c.enter-is_opposed.result Waits Free =
    elim c.if-is_opposed.branch [
      | then-is_opposed w ↦ w.result-is ∙ sym (ap (λ b. cond b Waits Free) w.if-is_opposed.true)
      | else-is_opposed w ↦ w.result-is ∙ sym (ap (λ b. cond b Waits Free) w.if-is_opposed.false)
    ] in
    told ∙ granted keys hs c.enter-is_opposed.result exact ∙ ap (λ v. if is_free keys v.holders then Free else Waits) c.self.view_is

pub returns-clause-spare : goal.returns-clause-spare
returns-clause-spare c =
    let inside = c.self.inside in
    let hs = inside.trail.holders in
    let keys = c.args.keys in
    let index = c.enter-is_opposed.new.self in
    let rest = min (map.spare inside.holders) (map.spare inside.index.tallies) in
    let room = subst (λ v. room_of keys ≤ v.spare) (sym c.self.view_is) c.requires.room in
    let fit = fits inside.holders.entries inside.index index hs c.args.number keys c.self.invariant rest room in
    subst (λ v. v.spare ≤ min (2 ^ 64 - 1 - index.asks.any) (min (map.spare c.insert.new.self) (map.spare index.tallies)) + room_of keys) c.self.view_is
    (spare_taken inside.holders.entries inside.index index hs c.args.number keys c.self.invariant (map.spare inside.holders) (map.spare inside.index.tallies) (map.spare c.insert.new.self) (map.spare index.tallies) (c.enter-is_opposed.ensures.counts (held hs) fit c.self.invariant.counted) c.in-Ok.ensures.spare c.enter-is_opposed.ensures.spare)
