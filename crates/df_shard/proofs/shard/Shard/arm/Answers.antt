use Rattle.std.proofs.Common.{◌≡◌, ◌∙◌, ap, sym, subst, ℕ, List}
use Rattle.std.specs.Prelude.{Some}
use Rattle.df_log.specs.Acts.{Act}
use Rattle.df_hops.specs.Parts.{act_of}
use Rattle.df_shard.specs.Fields.{view_of}
use Rattle.df_shard.specs.Holds.{View, Holds, Wait, wait_at, wait_of}
use Rattle.df_shard.specs.Changes.{with_wait}
use Rattle.df_shard.specs.Came.{Comes}
use Rattle.df_shard.specs.Arming.{arm_at, armed_by}
use Rattle.df_shard.proofs.Arms.{armed-holds}
use Rattle.df_shard.proofs.Waitings.{at-index, at-number, set-with}
use Rattle.df_shard.proofs.shard.Shard.arm.Goals as goal

pub invariant_of-self : goal.invariant_of-self
invariant_of-self c =
    let x : View = view_of c.self.inside in let items = c.self.inside.waiting.items in let w0 = c.index_mut.result.now in
    let w : Wait = wait_of w0 in let hop : ℕ = c.args.hop in let act : Act = act_of c.args.part in
    let here : wait_at w.number x.waiting ≡ Some w = at-index items c.in-Some.at w0 c.self.invariant.once c.in-Some.ensures.within c.index_mut.ensures.value in
    let found : wait_at c.args.number x.waiting ≡ Some w =
    subst (λ v. wait_at c.args.number x.waiting ≡ Some (wait_of v)) (sym c.index_mut.ensures.value) (c.in-Some.ensures.some w0) in
    let same : w.number ≡ c.args.number = at-number c.args.number x.waiting w found in
    let came : Comes x c.args.number hop act = subst (λ (v : View). Comes v c.args.number hop act) (sym c.self.view_is) c.requires.comes in
    subst (λ (ws : List Wait). Holds (record x { waiting = ws })) (sym (set-with items c.in-Some.at w0 c.arm_in.new.call c.self.invariant.once c.in-Some.ensures.within c.index_mut.ensures.value ∙ ap (λ v. with_wait w.number v x.waiting) c.arm_in.ensures))
    (armed-holds x w hop act c.self.invariant here (subst (λ n. Comes x n hop act) (sym same) came))

pub returns : goal.returns
returns c =
    let x : View = view_of c.self.inside in let items = c.self.inside.waiting.items in let w0 = c.index_mut.result.now in
    let w : Wait = wait_of w0 in let hop : ℕ = c.args.hop in let act : Act = act_of c.args.part in
    let found : wait_at c.args.number x.waiting ≡ Some w =
    subst (λ v. wait_at c.args.number x.waiting ≡ Some (wait_of v)) (sym c.index_mut.ensures.value) (c.in-Some.ensures.some w0) in
    ap (λ (ws : List Wait). record x { waiting = ws }) (set-with items c.in-Some.at w0 c.arm_in.new.call c.self.invariant.once c.in-Some.ensures.within c.index_mut.ensures.value ∙ ap (λ v. with_wait w.number v x.waiting) c.arm_in.ensures)
    ∙ sym (ap (λ o. arm_at x o hop act) found) ∙ ap (λ (v : View). armed_by v c.args.number hop act) c.self.view_is
