-- The calls of clients keep what the order law asks of calls.
use Rattle.std.proofs.Common.{◌≡◌, ℕ, zero, suc, ◌<◌, true, refl, ap, ◌∙◌}
use Rattle.std.specs.Prelude.{None, is_none, ◌&&◌}
use Rattle.df_model.specs.declared.command.Call.{Call}
use Rattle.df_footprints.specs.Footprints.{footprint_of}
use Rattle.df_order.specs.Model.{Laws, names_none}
use Rattle.df_order.proofs.LogsAlone.{names_none_at}
use Rattle.df_core.specs.Steps.{steps_of}
use Rattle.df_core.specs.Calls.{calls}
use Rattle.df_core.proofs.StepLaws.{after_entries}
use Rattle.df_core.proofs.CallLaws.{entries_compose}
use Rattle.df_core.proofs.DueLaws as due
use Rattle.df_core.proofs.CompleteLaws as gives
use Rattle.df_core.proofs.QuickLaws as quick
use Rattle.df_core.proofs.SwapLaws as swaps
use Rattle.df_footprints.proofs.ConflictLaws.{conflicts_comm}

-- a call that names none of the first t shards
none_named : (shards : ℕ) (call : Call) (t : ℕ) → ((s : ℕ) → footprint_of shards call s ≡ None) →
    names_none (calls shards) call t ≡ true
none_named shards call zero none = refl
none_named shards call (suc t) none =
    ap (λ f. is_none f && names_none (calls shards) call t) (none t) ∙ none_named shards call t none

-- each law, by the file that proves it
pub calls_laws : (shards : ℕ) → 0 < shards → Laws (calls shards)
calls_laws shards pos = record {
  meets_sym = conflicts_comm;
  swap = swaps.swap shards;
  next_named = λ c es s e next. due.next_named shards c (λ t. steps_of (es t)) s e.hop e.act next.due;
  next_rises = λ c es s e f next h. due.next_rises shards c es s e f next.due h;
  composes = λ call n es xs r done fit numbers rises. entries_compose shards n call es r xs pos numbers done fit;
  within = λ c s le. due.within shards c s le;
  none_whole = λ c es none empty. gives.none_whole shards pos c (λ t. steps_of (es t))
      (λ s lt. names_none_at (calls shards) c shards none s lt) (λ s. ap steps_of (empty s));
  whole_some = λ c es done empty. none_named shards c shards
      (gives.whole_some shards pos c (λ t. steps_of (es t)) done.0 done.1 (λ s. ap steps_of (empty s)));
  quick_one = λ c s t q a b. quick.quick_one shards c s t q a b;
  quick_whole = λ c es es' s e q next here there. quick.quick_whole shards c es es' s e next.answer.0 q next.due
      next.answer.1 (next.first q) here there;
  good_own = swaps.good_own shards;
  good_other = swaps.good_other shards;
  slot_other = swaps.slot_other;
  slot_own = swaps.slot_own;
  whole_bare = λ c es n s x done numbers bare.
      ap (λ y. y.staged n) (after_entries shards s n (es s) x numbers)
      ∙ gives.whole_bare shards c (λ t. steps_of (es t)) done.0 n s x done.1 bare;
}
