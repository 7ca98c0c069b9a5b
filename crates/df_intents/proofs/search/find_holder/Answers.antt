use Rattle.std.proofs.Common.{◌≡◌, sym, subst, ◌∙◌}
use Rattle.std.specs.Prelude.{Some, nat_eq}
use Rattle.std.specs.Map.{lookup}
use Rattle.df_footprints.specs.Asks.{Ask}
use Rattle.df_intents.specs.Counting.{for_key}
use Rattle.df_intents.proofs.EntryLaws.{AllFound, Left, all_found, left_next, none_left}
use Rattle.df_intents.proofs.HolderLaws.{clash_found}
use Rattle.df_intents.proofs.search.find_holder.Goals as goal

pub returns : goal.returns
returns c = λ hs once tells.
    let at : lookup (nat_eq c.args.hint) c.args.holders.now.entries ≡ Some c.in-Some.keys.now = sym c.in-Some.ensures.value in
    sym (clash_found (for_key c.args.key.now c.args.mode) hs c.args.hint c.in-Some.keys.now (sym (tells c.args.hint) ∙ at) (sym c.if-clashes.ensures))

pub holders-init : goal.holders-init
holders-init c =
    let es = c.args.holders.now.entries in
    let is : c.into_iter-number-iterator.result ≡ es = c.into_iter-number-iterator.ensures.into_iter_gives ∙ c.iter-number-items.ensures.rest in
    record {
      found = subst (AllFound es) (sym is) (all_found es es c.iter-number-items.ensures.found);
      left = subst (Left (for_key c.args.key.now c.args.mode) es) (sym is) (λ number keys at clash. at);
    }

pub returns-then-clashes-2 : goal.returns-then-clashes-2
returns-then-clashes-2 c = λ hs once tells.
    let es = c.args.holders.now.entries in
    let found = subst (AllFound es) c.in-Some-2.ensures.steps c.holders.invariant.found in
    sym (clash_found (for_key c.args.key.now c.args.mode) hs c.in-Some-2.number.now c.in-Some-2.keys.now (sym (tells c.in-Some-2.number.now) ∙ found.0) (sym c.if-clashes-2.ensures))

pub holders-preserved : goal.holders-preserved
holders-preserved c =
    let es = c.args.holders.now.entries in
    let found = subst (AllFound es) c.in-Some-2.ensures.steps c.holders.invariant.found in
    record {
      found = found.1;
      left = left_next (for_key c.args.key.now c.args.mode) es c.holders.number-iterator (c.in-Some-2.number.now, c.in-Some-2.keys.now) c.next.new.self
          c.in-Some-2.ensures.steps (sym c.if-clashes-2.ensures) c.holders.invariant.left;
    }

pub returns-2 : goal.returns-2
returns-2 c = λ hs once tells.
    let a : Ask = for_key c.args.key.now c.args.mode in
    let es = c.args.holders.now.entries in
    sym (none_left a es hs once tells (subst (Left a es) c.in-None.ensures.steps.0 c.holders.invariant.left))
