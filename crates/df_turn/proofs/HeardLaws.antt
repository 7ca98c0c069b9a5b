-- What was heard of each shard says what it was told.
use Rattle.std.proofs.Common.{◌≡◌, ℕ, zero, suc, ◌+◌, ◌<◌, Bool, true, false, cond, not, is_some, List, [], refl, sym, ap, subst, ◌∙◌, arith}
use Rattle.std.specs.Prelude.{Option, Some, None, ◌&&◌, nat_lt}
use Rattle.df_model.specs.Values.{Bytes, Value}
use Rattle.df_model.specs.Members as members
use Rattle.df_log.specs.Acts as acts
use Rattle.df_log.specs.Acts.{Act, Told, Unstage}
use Rattle.df_log.specs.Parts.{did}
use Rattle.df_core.specs.Due.{values_in}
use Rattle.df_core.specs.Done.{names_of, sum_of}
use Rattle.df_rounds.specs.Standing.{Asked, on_shards, round_wanted, end_of}
use Rattle.df_rounds.specs.Replies.{names_in, number_in}
use Rattle.df_rounds.proofs.ToldLaws.{some-same, on-in}
use Rattle.df_hops.specs.Outcomes as said
use Rattle.df_hops.specs.Outcomes.{Said}
use Rattle.df_hops.specs.Came.{said_of, said_as}
use Rattle.df_hops.specs.declared.answer.Outcome.{Outcome}
use Rattle.df_hops.specs.declared.answer.Outcome.TheVariants as outcomes
use Rattle.df_exchange.specs.Asks.{Heard, AllHeard, heard_of}
use Rattle.df_turn.specs.Heard.{is_want, number_heard, names_heard, values_heard, some_want, sum_heard, all_names, ends_as}

-- ---- of one shard

abbrev want-in : Said → Bool
want-in (said.Reply bytes) = false
want-in (said.Values values) = false
want-in said.Staged = false
want-in said.Applied = false
want-in (said.Names names) = false
want-in (said.Number n) = false
want-in said.NoMemory = true
want-in said.Nothing = false

abbrev number-said : Said → ℕ
number-said (said.Reply bytes) = 0
number-said (said.Values values) = 0
number-said said.Staged = 0
number-said said.Applied = 0
number-said (said.Names names) = 0
number-said (said.Number n) = n
number-said said.NoMemory = 0
number-said said.Nothing = 0

abbrev names-said : Said → List Bytes
names-said (said.Reply bytes) = []
names-said (said.Values values) = []
names-said said.Staged = []
names-said said.Applied = []
names-said (said.Names names) = names
names-said (said.Number n) = []
names-said said.NoMemory = []
names-said said.Nothing = []

abbrev values-said : Said → List (Option Value)
values-said (said.Reply bytes) = []
values-said (said.Values values) = values
values-said said.Staged = []
values-said said.Applied = []
values-said (said.Names names) = []
values-said (said.Number n) = []
values-said said.NoMemory = []
values-said said.Nothing = []

-- an outcome and an answer that say the same are read alike
record Alike (told : Told) (outcome : Outcome) : Type 0 where
  want : is_want (Some outcome) ≡ not (did told)
  number : number_heard (Some outcome) ≡ number_in told
  names : names_heard (Some outcome) ≡ names_in told
  values : values_heard (Some outcome) ≡ values_in told

record Read (s : Said) (want : Bool) (number : ℕ) (names : List Bytes) (values : List (Option Value)) : Type 0 where
  want_is : want-in s ≡ want
  number_is : number-said s ≡ number
  names_is : names-said s ≡ names
  values_is : values-said s ≡ values

of-told : (told : Told) → Read (said_of told) (not (did told)) (number_in told) (names_in told) (values_in told)
of-told (acts.Ran reply) = record { want_is = refl; number_is = refl; names_is = refl; values_is = refl }
of-told (acts.Values values) = record { want_is = refl; number_is = refl; names_is = refl; values_is = refl }
of-told acts.Staged = record { want_is = refl; number_is = refl; names_is = refl; values_is = refl }
of-told acts.Applied = record { want_is = refl; number_is = refl; names_is = refl; values_is = refl }
of-told (acts.Names names) = record { want_is = refl; number_is = refl; names_is = refl; values_is = refl }
of-told (acts.Number n) = record { want_is = refl; number_is = refl; names_is = refl; values_is = refl }
of-told (acts.Cut pairs) = record { want_is = refl; number_is = refl; names_is = refl; values_is = refl }
of-told acts.NoMemory = record { want_is = refl; number_is = refl; names_is = refl; values_is = refl }
of-told (acts.Refused limit) = record { want_is = refl; number_is = refl; names_is = refl; values_is = refl }
of-told (acts.Handed bytes) = record { want_is = refl; number_is = refl; names_is = refl; values_is = refl }
of-told (acts.Replied reply) = record { want_is = refl; number_is = refl; names_is = refl; values_is = refl }

of-outcome : (o : Outcome) → Read (said_as o) (is_want (Some o)) (number_heard (Some o)) (names_heard (Some o)) (values_heard (Some o))
of-outcome (outcomes.Ran pieces) = record { want_is = refl; number_is = refl; names_is = refl; values_is = refl }
of-outcome (outcomes.Values values) = record { want_is = refl; number_is = refl; names_is = refl; values_is = refl }
of-outcome outcomes.Staged = record { want_is = refl; number_is = refl; names_is = refl; values_is = refl }
of-outcome outcomes.Applied = record { want_is = refl; number_is = refl; names_is = refl; values_is = refl }
of-outcome (outcomes.Names names) = record { want_is = refl; number_is = refl; names_is = refl; values_is = refl }
of-outcome (outcomes.Number n) = record { want_is = refl; number_is = refl; names_is = refl; values_is = refl }
of-outcome outcomes.NoMemory = record { want_is = refl; number_is = refl; names_is = refl; values_is = refl }

alike : (told : Told) (o : Outcome) → said_of told ≡ said_as o → Alike told o
alike told o e =
    let x = of-told told in
    let y = of-outcome o in record {
      want = sym y.want_is ∙ ap want-in (sym e) ∙ x.want_is;
      number = sym y.number_is ∙ ap number-said (sym e) ∙ x.number_is;
      names = sym y.names_is ∙ ap names-said (sym e) ∙ x.names_is;
      values = sym y.values_is ∙ ap values-said (sym e) ∙ x.values_is;
    }

pub want-heard : (asked : Option Act) (told : Told) (heard : Option Outcome) → Heard asked told heard →
    is_want heard ≡ (is_some asked && not (did told))
want-heard None told heard h = ap is_want h
want-heard (Some act) told heard h = ap is_want h.1 ∙ (alike told h.0 h.2.0).want

pub number-heard : (act : Act) (told : Told) (heard : Option Outcome) → Heard (Some act) told heard → number_heard heard ≡ number_in told
number-heard act told heard h = ap number_heard h.1 ∙ (alike told h.0 h.2.0).number

pub names-heard : (act : Act) (told : Told) (heard : Option Outcome) → Heard (Some act) told heard → names_heard heard ≡ names_in told
names-heard act told heard h = ap names_heard h.1 ∙ (alike told h.0 h.2.0).names

pub values-heard : (act : Act) (told : Told) (heard : Option Outcome) → Heard (Some act) told heard → values_heard heard ≡ values_in told
values-heard act told heard h = ap values_heard h.1 ∙ (alike told h.0 h.2.0).values

-- who was heard was asked
end-heard : (wanted : Bool) (act : Act) (asked : Option Act) (told : Told) (heard : Option Outcome) → Heard asked told heard →
    ends_as wanted act heard ≡ end_of wanted act asked
end-heard wanted act None told heard h = ap (ends_as wanted act) h
end-heard wanted act (Some asks) told heard h = ap (ends_as wanted act) h.1

-- ---- of all shards

module _ (shards : ℕ) (asked : Asked) (told : ℕ → Told) (heard : List (Option Outcome)) (all : AllHeard (on_shards shards asked) told heard) where
  -- one of them found no memory
  pub wants : some_want shards heard ≡ round_wanted shards asked told
  wants =
      some-same (λ s. is_want (heard_of s heard)) (λ s. is_some (asked s) && not (did (told s))) shards
      (λ s lt. want-heard (on_shards shards asked s) (told s) (heard_of s heard) (all s)
      ∙ ap (λ o. is_some o && not (did (told s))) (on-in shards asked s lt))

  -- what each is asked to end with
  pub ends : (act : Act) (s : ℕ) →
      ends_as (some_want shards heard) act (heard_of s heard) ≡ on_shards shards (λ t. end_of (round_wanted shards asked told) act (asked t)) s
  ends act s =
      end-heard (some_want shards heard) act (on_shards shards asked s) (told s) (heard_of s heard) (all s)
      ∙ ap (λ w. end_of w act (on_shards shards asked s)) wants
      ∙ go (nat_lt s shards)
    where
      go : (b : Bool) → end_of (round_wanted shards asked told) act (cond b (asked s) None) ≡ cond b (end_of (round_wanted shards asked told) act (asked s)) None
      go true = refl
      go false = refl

  module _ (act : Act) (each : (s : ℕ) → asked s ≡ Some act) where
    heard-each : (s : ℕ) → s < shards → Heard (Some act) (told s) (heard_of s heard)
    heard-each s lt = let P : Option Act → Type 0 = λ o. Heard o (told s) (heard_of s heard) in subst P (on-in shards asked s lt ∙ each s) (all s)

    pub sums : sum_heard shards heard ≡ sum_of (λ s. number_in (told s)) shards
    sums = go shards (λ s lt. number-heard act (told s) (heard_of s heard) (heard-each s lt))
      where
        go : (n : ℕ) → ((s : ℕ) → s < n → number_heard (heard_of s heard) ≡ number_in (told s)) →
            sum_of (λ s. number_heard (heard_of s heard)) n ≡ sum_of (λ s. number_in (told s)) n
        go zero h = refl
        go (suc t) h = λ j. h t (omega arith) j + go t (λ s lt. h s (omega (arith, lt))) j

    pub named : all_names shards heard ≡ names_of (λ s. names_in (told s)) shards
    named = go shards (λ s lt. names-heard act (told s) (heard_of s heard) (heard-each s lt))
      where
        go : (n : ℕ) → ((s : ℕ) → s < n → names_heard (heard_of s heard) ≡ names_in (told s)) →
            names_of (λ s. names_heard (heard_of s heard)) n ≡ names_of (λ s. names_in (told s)) n
        go zero h = refl
        go (suc t) h = λ j. members.with_all (h t (omega arith) j) (go t (λ s lt. h s (omega (arith, lt))) j)
