use Rattle.std.proofs.Common.{◌≡◌, ◌<◌, ℕ, length, sym, subst, ◌∙◌, arith, inl, inr}
use Rattle.std.proofs.lemmas.Bool.{cases_lt}
use Rattle.df_dashtable.specs.Tables.{Sends, IsNewer, segment_at}
use Rattle.df_dashtable.proofs.KeyLaws.{all_newer_none}
use Rattle.df_dashtable.proofs.SendLaws.{sends_more}
use Rattle.df_dashtable.proofs.table.DashTable.touch_all.Goals as goal

pub segments-preserved : goal.segments-preserved
segments-preserved g c =
    let u = c.touch_segment.new.self in
    let i = c.segments.invariant in
    let touched = c.touch_segment.ensures.touched in
    record {
      same = λ key. touched.same key ∙ i.same key;
      version = touched.version ∙ i.version;
      long = touched.long ∙ i.long;
      newer = λ s b h w. elim (cases_lt s c.segments.s) as (λ _. IsNewer u s b) [
        | inl before ↦ touched.newer s b (i.newer s b before (let e = touched.count s in omega arith))
        | inr far ↦ (let e : s ≡ c.segments.s = omega arith in
            subst (λ (n : ℕ). IsNewer u n b) (sym e) (c.in_ok-touch_segment.ensures.newer b (subst (λ (n : ℕ). b < length (segment_at u.segments n).buckets) e w)))
      ];
      takes = c.touch_segment.ensures.takes ∙ i.takes;
      sends = sends_more (g.H.Hook.takes c.args.hook.now) i.sends
          (subst (λ b. Sends b (g.H.Hook.holds c.segments.hook) (g.H.Hook.holds c.touch_segment.new.hook) c.segments.self u) i.takes c.touch_segment.ensures.sends);
    }

pub returns-in_err-touch_segment-clause-sends : goal.returns-in_err-touch_segment-clause-sends
returns-in_err-touch_segment-clause-sends g c =
    sends_more (g.H.Hook.takes c.args.hook.now) c.segments.invariant.sends
    (subst (λ b. Sends b (g.H.Hook.holds c.segments.hook) (g.H.Hook.holds c.touch_segment.new.hook) c.segments.self c.touch_segment.new.self) c.segments.invariant.takes c.touch_segment.ensures.sends)

pub returns-clause-none : goal.returns-clause-none
returns-clause-none g c =
    all_newer_none c.segments.self
    (λ s b h w. c.segments.invariant.newer s b (let l = c.segments.invariant.long in let t = c.segments-test.false in let n = c.segment_count-count.ensures in omega arith) w)
