-- A command with keys on several shards from round to round.
use Rattle.std.proofs.Common.{◌≡◌, ◌⊎◌, ℕ, zero, suc, ◌+◌, ◌<◌, ◌≤◌, Bool, true, false, cond, not, is_some, List, [], ◌∷◌, length, inl, inr, refl, sym, ap, subst, ◌∙◌, add-one, arith}
use Rattle.std.specs.Prelude.{Option, Some, None, ◌&&◌, ◌||◌}
use Rattle.std.specs.Option.{option_map}
use Rattle.std.specs.Global.{Vec}
use Rattle.std.proofs.lemmas.Bool.{false≢true, not-false, or_left}
use Rattle.std.proofs.lemmas.List.{length-map}
use Rattle.std.specs.FinMap as fin
use Rattle.df_model.specs.Values.{Bytes}
use Rattle.df_model.specs.Spared.{Spared}
use Rattle.df_model.specs.declared.keys.Mode.{Mode}
use Rattle.df_model.specs.Keyspace.{Keyspace, held}
use Rattle.df_model.specs.Meaning.{meaning}
use Rattle.df_model.specs.Reads.{IsLinked}
use Rattle.df_model.specs.Replies.{encoding_of}
use Rattle.df_model.specs.declared.command.Command.{Command}
use Rattle.df_model.specs.declared.reply.Reply.{Reply}
use Rattle.df_footprints.specs.Footprints.{modes_on}
use Rattle.df_log.specs.Acts as acts
use Rattle.df_log.specs.Acts.{Act, Apply, Changes, Told}
use Rattle.df_log.specs.Parts.{did, IsTold}
use Rattle.df_core.specs.Courses.{Spread, Cuts, course_of, keys_on, changes_on}
use Rattle.df_core.specs.Due.{is_nil, values_in, with_values}
use Rattle.df_core.specs.Done.{want_of_memory}
use Rattle.df_core.proofs.HopLaws.{none_passes}
use Rattle.df_rounds.specs.Standing.{Standing, Fresh, Once, Twice, Thrice, then_told, asks, goes_on, on_shards, first_asked, second_asked, third_asked, read_of, stage_of, end_of, round_wanted, told_below, values_told, MayBeTold}
use Rattle.df_rounds.proofs.ToldLaws.{some-same, some-none, on-in}
use Rattle.df_hops.specs.Parts.{act_of}
use Rattle.df_hops.specs.declared.message.Part.{Part}
use Rattle.df_hops.specs.declared.answer.Outcome.{Outcome}
use Rattle.df_exchange.specs.Asks.{AllHeard, Heard, heard_of}
use Rattle.df_spread.specs.Spread.{KeysStand, modes_at}
use Rattle.df_turn.specs.Heard.{ends_as, some_want, told_heard, values_heard}
use Rattle.df_turn.specs.Steps.{Ends, Goes, IsStaging, RanTo, Says, changes_any}
use Rattle.df_turn.specs.Turns.{Asking, IsAnswered, Keeps, KeepsOnce, KeepsTwice}
use Rattle.df_turn.specs.declared.turn.Rest.{Rest}
use Rattle.df_turn.specs.declared.turn.Rest.TheVariants as rests
use Rattle.df_turn.specs.declared.turn.Turn.{Turn}
use Rattle.df_turn.specs.declared.turn.Next.{Next}
use Rattle.df_turn.specs.declared.turn.Next.TheVariants as nexts
use Rattle.df_turn.proofs.HeardLaws.{wants, ends, values-heard}
use Rattle.df_turn.proofs.BeginLaws.{asking_by, parts_by}
use Rattle.df_turn.proofs.OverLaws.{over_by, stop_by, heard_by, lent_by, no-save}
use Rattle.df_turn.proofs.WholeGoes.{kept}

-- ---- what was read

-- what was heard of a shard is what it was told of the keys there
same-read : (keys : List Bytes) (told : Told) (heard : Option Outcome) (K L : Keyspace) → Heard (read_of keys) told heard → K ≡ L →
    with_values keys (values_heard heard) K ≡ with_values keys (values_in told) L
same-read [] told heard K L h e = e
same-read (k ∷ keys) told heard K L h e = λ j. with_values (k ∷ keys) (values-heard (acts.Read (k ∷ keys)) told heard h j) (e j)

-- where memory sufficed there is a value for each key
values-count : (shards s : ℕ) (keys : List Bytes) (told : Told) (heard : Option Outcome) → Heard (read_of keys) told heard →
    MayBeTold shards s (read_of keys) told → (is_some (read_of keys) ≡ true → did told ≡ true) → length (values_heard heard) ≡ length keys
values-count shards s [] told heard h may done = ap (λ o. length (values_heard o)) h
values-count shards s (k ∷ keys) told heard h may done =
    ap length (values-heard (acts.Read (k ∷ keys)) told heard h) ∙ read-count (acts.Read (k ∷ keys)) told may.1 refl (done refl)
  where
    read-count : (act : Act) (told : Told) → IsTold shards s may.0 act told → act ≡ acts.Read (k ∷ keys) → did told ≡ true → length (values_in told) ≡ length (k ∷ keys)
    read-count _ _ (IsTold.ran command) is d = cc
    read-count _ _ (IsTold.read ks) is d = let same : ks ≡ k ∷ keys = cc in length-map ks (held may.0) ∙ ap length same
    read-count _ _ (IsTold.staged changes) is d = cc
    read-count _ _ IsTold.applied is d = cc
    read-count _ _ IsTold.unstaged is d = cc
    read-count _ _ IsTold.began is d = cc
    read-count _ _ IsTold.walked is d = cc
    read-count _ _ IsTold.counted is d = cc
    read-count _ _ IsTold.cleared is d = cc
    read-count _ _ (IsTold.wanted act w) is d = absurd (false≢true d)

-- what changes on each shard may be said in another way
pub ran-same : (shards : ℕ) (f g : ℕ → Changes) (said : Bytes) (new : Turn) (next : Next) → ((s : ℕ) → s < shards → f s ≡ g s) →
    RanTo next shards f said new → RanTo next shards g said new
ran-same shards f g said new nexts.Asks h r = record {
  any = sym (some-same (λ s. not (is_nil (f s))) (λ s. not (is_nil (g s))) shards (λ s lt. ap (λ c. not (is_nil c)) (h s lt))) ∙ r.any;
  rest = r.rest;
  hop = r.hop;
  count = r.count;
  parts = λ s lt. r.parts s lt ∙ ap stage_of (h s lt);
}
ran-same shards f g said new (nexts.Over reply) h r =
    (r.0, sym (some-same (λ s. not (is_nil (f s))) (λ s. not (is_nil (g s))) shards (λ s lt. ap (λ c. not (is_nil c)) (h s lt))) ∙ r.1)
ran-same shards f g said new nexts.Unsaid h r = r

stage-asks : (changes : Changes) → is_some (stage_of changes) ≡ not (is_nil changes)
stage-asks [] = refl
stage-asks (c ∷ changes) = refl

part-asks : (part : Option Part) → is_some (option_map act_of part) ≡ is_some part
part-asks None = refl
part-asks (Some part) = refl

-- with a shard more, on which something changes, or nothing
pub some-more : (s : ℕ) (f : ℕ → Changes) (part : Option Part) → option_map act_of part ≡ stage_of (f s) → is_some part ≡ true →
    true ≡ changes_any (s + 1) f
some-more s f part is asks =
    sym (ap (λ n. changes_any n f) (add-one s)
    ∙ or_left (not (is_nil (f s))) (changes_any s f) (sym (stage-asks (f s)) ∙ ap is_some (sym is) ∙ part-asks part ∙ asks))

pub none-more : (s : ℕ) (f : ℕ → Changes) (part : Option Part) (any : Bool) → option_map act_of part ≡ stage_of (f s) → is_some part ≡ false →
    any ≡ changes_any s f → any ≡ changes_any (s + 1) f
none-more s f part any is asks e =
    e ∙ sym (ap (λ n. changes_any n f) (add-one s)
    ∙ ap (λ b. b || changes_any s f) (sym (stage-asks (f s)) ∙ ap is_some (sym is) ∙ part-asks part ∙ asks))

end-asks : (wanted : Bool) (act : Act) (o : Option Act) → is_some (end_of wanted act o) ≡ is_some o
end-asks wanted act None = refl
end-asks wanted act (Some stage) = refl

-- what a run needs of a round of reads
pub record ReadsReady (shards : ℕ) (command now : Command) (heard : List (Option Outcome)) (kept : List (Spared (Bytes × Mode))) : Type 0 where
  pub lent : now ≡ command
  pub linked : IsLinked now
  pub keys : KeysStand shards now kept
  pub values : some_want shards heard ≡ false → (s : ℕ) → s < shards → length (values_heard (heard_of s heard)) ≡ length (modes_at kept s)

module _ (shards : ℕ) (command : Command) (told : ℕ → Told) (turn : Turn) (lent : Command) (heard : List (Option Outcome)) where
  abbrev Answered : Standing → Type 0
  Answered standing = IsAnswered shards command standing told turn lent heard

  -- ---- behind the reads

  abbrev first : ℕ → Option Act
  first = first_asked shards command Spread

  reads_heard : Answered Fresh → course_of shards command ≡ Spread → AllHeard (on_shards shards first) told heard
  reads_heard a by = heard_by shards command Fresh told heard Spread by a.heard

  heard_at : (a : Answered Fresh) (by : course_of shards command ≡ Spread) (s : ℕ) → s < shards → Heard (read_of (keys_on shards s command)) (told s) (heard_of s heard)
  heard_at a by s lt = let P : Option Act → Type 0 = λ o. Heard o (told s) (heard_of s heard) in subst P (on-in shards first s lt) (reads_heard a by s)

  may_at : (a : Answered Fresh) (by : course_of shards command ≡ Spread) (s : ℕ) → s < shards → MayBeTold shards s (read_of (keys_on shards s command)) (told s)
  may_at a by s lt =
      let P : Option Act → Type 0 = λ o. MayBeTold shards s o (told s) in
      subst P (ap (λ c. asks shards command c Fresh s) by ∙ on-in shards first s lt) (a.may s)

  -- no read of keys found no memory
  had : Answered Fresh → course_of shards command ≡ Spread → some_want shards heard ≡ false → (s : ℕ) → s < shards →
      is_some (read_of (keys_on shards s command)) ≡ true → did (told s) ≡ true
  had a by none s lt asked =
      not-false (did (told s))
      (sym (ap (λ b. b && not (did (told s))) asked)
      ∙ some-none (λ t. is_some (first t) && not (did (told t))) shards (sym (wants shards first told heard (reads_heard a by)) ∙ none) s lt)

  -- it is lent as it is
  spread_lent : Answered Fresh → course_of shards command ≡ Spread → lent ≡ command
  spread_lent a by = lent_by shards command lent Spread by a.lent

  reads_kept : Answered Fresh → (kept : List (Spared (Bytes × Mode))) → course_of shards command ≡ Spread → KeysStand shards command kept →
      ReadsReady shards command lent heard kept
  reads_kept a kept by stand = record {
    lent = spread_lent a by;
    linked = subst IsLinked (sym (spread_lent a by)) (no-save shards command (λ e. let no : Spread ≡ Cuts = sym by ∙ e in cc));
    keys = let P : Command → Type 0 = λ c. KeysStand shards c kept in subst P (sym (spread_lent a by)) stand;
    values = λ none s lt.
        values-count shards s (keys_on shards s command) (told s) (heard_of s heard) (heard_at a by s lt) (may_at a by s lt) (had a by none s lt)
        ∙ length-map (fin.entries (modes_on shards s (command ∷ []))) (λ e. e.0)
        ∙ ap length (sym (stand.each s lt));
  }

  -- the shards told what was heard of the keys there
  read-below : Answered Fresh → course_of shards command ≡ Spread → (n : ℕ) → n ≤ shards →
      told_below shards command (told_heard heard) n ≡ told_below shards command told n
  read-below a by zero le = refl
  read-below a by (suc t) le =
      same-read (keys_on shards t command) (told t) (heard_of t heard) (told_below shards command (told_heard heard) t) (told_below shards command told t)
      (heard_at a by t (omega (arith, le))) (read-below a by t (omega (arith, le)))

  abbrev changed : ℕ → Changes
  changed s = changes_on shards s command (values_told shards command told)

  module _ (by : course_of shards command ≡ Spread) (read : round_wanted shards first told ≡ false) (new : Turn) where
    asked-once : (s : ℕ) → second_asked shards command Spread told s ≡ stage_of (changed s)
    asked-once s = ap (λ w. cond w None (stage_of (changed s))) read

    goes-once : goes_on shards command Spread (Once told) ≡ changes_any shards changed
    goes-once =
        some-same (λ s. is_some (on_shards shards (second_asked shards command Spread told) s)) (λ s. not (is_nil (changed s))) shards
        (λ s lt. ap is_some (on-in shards (second_asked shards command Spread told) s lt ∙ asked-once s) ∙ stage-asks (changed s))

    keeps-staging : (rest : Rest) → IsStaging (encoding_of (meaning command (values_told shards command told)).0) rest → KeepsOnce shards command told rest
    keeps-staging rests.Nowhere k = absurd k
    keeps-staging (rests.Waiting s room) k = absurd k
    keeps-staging (rests.Running s) k = absurd k
    keeps-staging rests.Cutting k = absurd k
    keeps-staging rests.Counting k = absurd k
    keeps-staging rests.Walking k = absurd k
    keeps-staging rests.Clearing k = absurd k
    keeps-staging (rests.Cleared wanted) k = absurd k
    keeps-staging (rests.Reading kept) k = absurd k
    keeps-staging (rests.Staging reply) k = (by, read, k)
    keeps-staging (rests.Ending wanted reply) k = absurd k

    ran-goes : (next : Next) → RanTo next shards changed (encoding_of (meaning command (values_told shards command told)).0) new →
        Goes next shards command (Once told) new
    ran-goes nexts.Asks r =
        asking_by shards command (Once told) new Spread by (keeps-staging new.rest r.rest) (goes-once ∙ r.any) r.hop r.count
        (parts_by shards (second_asked shards command Spread told) new r.count (λ s lt. r.parts s lt ∙ sym (asked-once s)))
    ran-goes (nexts.Over reply) r =
        over_by shards command (Once told) new (nexts.Over reply) Spread (meaning command (values_told shards command told)).0 by (goes-once ∙ r.1)
        (ap (λ w. cond w want_of_memory (meaning command (values_told shards command told)).0) read) r.0
    ran-goes nexts.Unsaid r = absurd r

  -- what comes of a run over what was heard
  abbrev RanOn : Next → Turn → Command → Type 0
  RanOn next new now =
      Says next want_of_memory
      ⊎ ((some_want shards heard ≡ false)
      × RanTo next shards (λ s. changes_on shards s now (values_told shards now (told_heard heard))) (encoding_of (meaning now (values_told shards now (told_heard heard))).0) new)

  run-fresh : (new : Turn) (next : Next) → Answered Fresh → course_of shards command ≡ Spread → RanOn next new command →
      Goes next shards command (Once told) new
  run-fresh new next a by says = elim says [
    | inl want ↦ stop_by shards command (Once told) new next Spread by refl want
    | inr ran ↦
        let P : Keyspace → Type 0 = λ K. RanTo next shards (λ s. changes_on shards s command K) (encoding_of (meaning command K).0) new in
        ran-goes by (sym (wants shards first told heard (reads_heard a by)) ∙ ran.0) new next (subst P (read-below a by shards (omega arith)) ran.1)
  ]

  -- ---- behind the stages

  show-once : (x : ℕ → Told) (new : Turn) (reply : Bytes) → Answered (Once x) → KeepsOnce shards command x (rests.Staging reply) →
      Ends (some_want (length heard) heard) Apply heard new → new.rest ≡ rests.Ending (some_want (length heard) heard) reply →
      Asking shards 0 command (Twice x told) new
  show-once x new reply a k e rest =
      let second = second_asked shards command Spread x in
      let all : AllHeard (on_shards shards second) told heard = heard_by shards command (Once x) told heard Spread k.0 a.heard in
      let wanted : some_want (length heard) heard ≡ round_wanted shards second told =
      ap (λ n. some_want n heard) a.count ∙ wants shards second told heard all in
      asking_by shards command (Twice x told) new Spread k.0
      (subst (KeepsTwice shards command x told) (sym rest) (k.0, wanted, k.2))
      (some-same (λ s. is_some (on_shards shards (third_asked shards command Spread x told) s)) (λ s. is_some (on_shards shards second s)) shards
      (λ s lt. ap is_some (on-in shards (third_asked shards command Spread x told) s lt)
      ∙ end-asks (round_wanted shards second told) Apply (second s) ∙ sym (ap is_some (on-in shards second s lt)))
      ∙ sym (ap (λ c. goes_on shards command c (Once x)) k.0) ∙ a.asking.goes)
      (e.hop ∙ ap (λ w. cond w 3 2) wanted) (e.count ∙ a.count)
      (λ s. e.parts s ∙ ap (λ n. ends_as (some_want n heard) Apply (heard_of s heard)) a.count ∙ ends shards second told heard all Apply s)

-- ---- by what is kept

module _ (shards : ℕ) (command : Command) (told : ℕ → Told) (turn : Turn) (lent : Command) (heard : List (Option Outcome)) where
  pub reads_ready : (standing : Standing) (keys : Vec (Spared (Bytes × Mode))) → turn.rest ≡ rests.Reading keys →
      IsAnswered shards command standing told turn lent heard → ReadsReady shards command lent heard keys.items
  reads_ready standing keys is a = go standing a (kept shards command told turn lent heard standing (rests.Reading keys) is a)
    where
      go : (standing : Standing) → IsAnswered shards command standing told turn lent heard → Keeps shards command standing (rests.Reading keys) →
          ReadsReady shards command lent heard keys.items
      go Fresh a k = reads_kept shards command told turn lent heard a keys.items k.0 k.1
      go (Once x) a k = absurd k
      go (Twice x y) a k = absurd k
      go (Thrice x y z) a k = absurd k

  pub run_goes : (standing : Standing) (new : Turn) (next : Next) (keys : Vec (Spared (Bytes × Mode))) → turn.rest ≡ rests.Reading keys →
      IsAnswered shards command standing told turn lent heard → RanOn shards command told turn lent heard next new lent →
      Goes next shards command (then_told told standing) new
  run_goes standing new next keys is a says = go standing a (kept shards command told turn lent heard standing (rests.Reading keys) is a)
    where
      go : (standing : Standing) → IsAnswered shards command standing told turn lent heard → Keeps shards command standing (rests.Reading keys) →
          Goes next shards command (then_told told standing) new
      go Fresh a k =
          run-fresh shards command told turn lent heard new next a k.0
          (subst (RanOn shards command told turn lent heard next new) (spread_lent shards command told turn lent heard a k.0) says)
      go (Once x) a k = absurd k
      go (Twice x y) a k = absurd k
      go (Thrice x y z) a k = absurd k

  pub show_goes : (standing : Standing) (new : Turn) (next : Next) (reply : Bytes) → turn.rest ≡ rests.Staging reply →
      IsAnswered shards command standing told turn lent heard → next ≡ nexts.Asks →
      Ends (some_want (length heard) heard) Apply heard new → new.rest ≡ rests.Ending (some_want (length heard) heard) reply →
      Goes next shards command (then_told told standing) new
  show_goes standing new next reply is a asks e rest = go standing a (kept shards command told turn lent heard standing (rests.Staging reply) is a)
    where
      go : (standing : Standing) → IsAnswered shards command standing told turn lent heard → Keeps shards command standing (rests.Staging reply) →
          Goes next shards command (then_told told standing) new
      go Fresh a k = absurd k
      go (Once x) a k =
          subst (λ n. Goes n shards command (Twice x told) new) (sym asks) (show-once shards command told turn lent heard x new reply a k e rest)
      go (Twice x y) a k = absurd k
      go (Thrice x y z) a k = absurd k

  pub ended_goes : (standing : Standing) (new : Turn) (next : Next) (wanted : Bool) (reply : Bytes) → turn.rest ≡ rests.Ending wanted reply →
      IsAnswered shards command standing told turn lent heard →
      ((said : Reply) → reply ≡ encoding_of said → Says next (cond wanted want_of_memory said)) →
      Goes next shards command (then_told told standing) new
  ended_goes standing new next wanted reply is a says = go standing (kept shards command told turn lent heard standing (rests.Ending wanted reply) is a)
    where
      go : (standing : Standing) → Keeps shards command standing (rests.Ending wanted reply) → Goes next shards command (then_told told standing) new
      go Fresh k = absurd k
      go (Once x) k = absurd k
      go (Twice x y) k =
          over_by shards command (Thrice x y told) new next Spread _ k.0 (none_passes (λ s. is_some (asks shards command Spread (Thrice x y told) s)) shards (λ s. refl))
          (ap (λ w. cond w want_of_memory (meaning command (values_told shards command x)).0) (sym k.1))
          (says (meaning command (values_told shards command x)).0 k.2)
      go (Thrice x y z) k = absurd k
