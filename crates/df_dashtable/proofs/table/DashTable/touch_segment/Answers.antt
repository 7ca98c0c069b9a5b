use Rattle.std.proofs.Common.{◌≡◌, ◌<◌, ℕ, length, subst, ◌∙◌, arith, inl, inr}
use Rattle.std.proofs.lemmas.Bool.{cases_lt}
use Rattle.df_dashtable.specs.Tables.{Sends, IsNewer, segment_at}
use Rattle.df_dashtable.proofs.StepLaws.{touches_more, step_touches, step_newer}
use Rattle.df_dashtable.proofs.SendLaws.{sends_more}
use Rattle.df_dashtable.proofs.table.DashTable.touch_segment.Goals as goal

pub buckets-preserved : goal.buckets-preserved
buckets-preserved g c =
    let t = c.buckets.self in
    let u = c.touch_at.new.self in
    let i = c.buckets.invariant in
    let w : c.args.s < length t.segments = (let l = i.touched.long in let r = c.requires in omega arith) in
    let d : c.buckets.b < length (segment_at t.segments c.args.s).buckets =
    (let n = i.touched.count c.args.s in let e = c.bucket_count_of-count.ensures in let h = c.buckets-test.true in omega arith) in
    let step = c.in_ok-touch_at.ensures.ok in
    record {
      touched = touches_more c.args.s c.args.self.now t u i.touched (step_touches t u c.args.s c.buckets.b w d step);
      newer = λ k h. elim (cases_lt k c.buckets.b) as (λ _. IsNewer u c.args.s k) [
        | inl b ↦ step_newer t u c.args.s c.buckets.b w d step k (i.newer k b)
        | inr far ↦ subst (λ (n : ℕ). IsNewer u c.args.s n) (let e : c.buckets.b ≡ k = omega arith in e) c.in_ok-touch_at.ensures.newer
      ];
      takes = c.touch_at.ensures.takes ∙ i.takes;
      sends = sends_more (g.H.Hook.takes c.args.hook.now) i.sends
          (subst (λ b. Sends b (g.H.Hook.holds c.buckets.hook) (g.H.Hook.holds c.touch_at.new.hook) t u) i.takes c.touch_at.ensures.sends);
    }
