-- A step after steps that gave nothing.
use Rattle.std.proofs.Common.{◌≡◌, ℕ, ◌+◌, ◌-◌, ◌<◌, [], length, drop, sym, subst, ◌∙◌, arith, length-drop}
use Rattle.df_model.specs.Values.{Bytes}
use Rattle.df_model.specs.Framing.{Splits, IsPartial, IsBad, BeginsWhole}
use Rattle.df_model.specs.BadInput.{BadAt}
use Rattle.df_model.specs.declared.session.BadKind.{BadKind}
use Rattle.df_model.proofs.FramingLaws.{splits_join}
use Rattle.df_resp.specs.Scan.{Scan}
use Rattle.df_resp.specs.Frames.{frame}
use Rattle.df_resp.specs.Stream.{place_of, IsPlaced}
use Rattle.df_resp.specs.Steps.{Steps}
use Rattle.df_resp.specs.declared.input.Step.{Step}
use Rattle.df_resp.specs.declared.input.Step.TheVariants.{More, Bad, On}
use Rattle.df_resp.proofs.CountLaws.{place_in}
use Rattle.df_resp.proofs.RestLaws.{more_is_partial, more_not_whole, bad_not_whole, bad_is_bad, bad_place}

pub on_step : (step : Step) (a old new buffer : Bytes) → Splits a [] old → Steps step old new buffer → step ≡ On → Splits a [] new
on_step step a old new buffer s t is =
    let on : Splits old [] new = subst (λ x. Steps x old new buffer) is t in
    splits_join a old new [] [] s on

pub more_step : (step : Step) (a old new buffer : Bytes) → Splits a [] old → Steps step old new buffer → step ≡ More → Splits a [] new × IsPartial new × ¬ (BeginsWhole new)
more_step step a old new buffer s t is =
    let more : (new ≡ old) × (frame new ≡ Scan.More) = subst (λ x. Steps x old new buffer) is t in
    (subst (Splits a []) (sym more.0) s, more_is_partial new more.1, more_not_whole new more.1)

pub record BadStep (a new : Bytes) (before : ℕ) (kind : BadKind) (at : ℕ) : Type 0 where
  pub splits : Splits a [] new
  pub is_bad : IsBad new
  pub no_whole : ¬ (BeginsWhole new)
  pub off : ℕ
  pub bad_at : BadAt new off kind
  pub place : at ≡ place_of (before + off)

pub bad_step : (step : Step) (a old new buffer : Bytes) (before place : ℕ) (kind : BadKind) (seen at : ℕ) → Splits a [] old → Steps step old new buffer → step ≡ Bad kind seen → IsPlaced before place new buffer → at ≡ place_of (place + seen) → BadStep a new before kind at
bad_step step a old new buffer before place kind seen at s t is placed e =
    let bad : (new ≡ old) × (seen < length buffer) × (frame new ≡ Scan.Bad (drop seen buffer) kind) = subst (λ x. Steps x old new buffer) is t in
    let sum : length new - length buffer + seen + length (drop seen buffer) ≡ length new = omega (arith, length-drop seen buffer, bad.1, placed.within) in
    record {
      splits = subst (Splits a []) (sym bad.0) s;
      is_bad = bad_is_bad new (drop seen buffer) kind bad.2;
      no_whole = bad_not_whole new (drop seen buffer) kind bad.2;
      off = length new - length buffer + seen;
      bad_at = bad_place new (drop seen buffer) kind (length new - length buffer + seen) bad.2 sum;
      place = e ∙ place_in before place seen new buffer placed;
    }
