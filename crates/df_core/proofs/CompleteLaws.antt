-- Calls that are complete: those that have no hop, and what stays staged behind the last.
use Rattle.std.proofs.Common.{◌≡◌, ◌≢◌, inl, inr, ℕ, suc, ◌<◌, ◌++◌, Bool, true, false, cond, nat_lt, List, [], ◌∷◌, refl, sym, ap, ◌∙◌, subst}
use Rattle.std.specs.Prelude.{Option, Some, None}
use Rattle.std.proofs.lemmas.Bool.{false≢true, true≢false, ltb-true}
use Rattle.std.proofs.lemmas.Option.{none-some}
use Rattle.df_model.specs.Keyspace.{Keyspace, no_keys}
use Rattle.df_model.specs.Meaning.{meaning}
use Rattle.df_model.specs.Spared.{all_of}
use Rattle.df_model.specs.declared.command.Command.{Command}
use Rattle.df_model.specs.declared.command.Call.{Call}
use Rattle.df_model.specs.declared.command.Call.TheVariants.{Single, Exec}
use Rattle.df_model.specs.declared.reply.Reply.{Reply}
use Rattle.df_model.specs.declared.reply.Reply.TheVariants.{Array}
use Rattle.df_model.specs.declared.keys.Keys.{Keys}
use Rattle.df_footprints.specs.Footprints.{commands_of, footprint_of, footprint_of_commands}
use Rattle.df_order.specs.Lists.{Has}
use Rattle.df_order.proofs.Puts.{put_same}
use Rattle.df_log.specs.Acts.{Changes}
use Rattle.df_log.specs.Parts.{Part, did, staged_after, after_act}
use Rattle.df_core.specs.Courses.{Course, Nowhere, Alone, Spread, Counts, Cuts, Clears, course_of, keys_on, changes_on, are_quick, is_quick, has_hop}
use Rattle.df_core.specs.Courses as courses
use Rattle.df_core.specs.Steps.{Step, after_steps}
use Rattle.df_core.specs.Done.{Shows, Stops, Undoes, Done, DoneAll, Gives}
use Rattle.df_core.proofs.StepLaws.{either_way}
use Rattle.df_core.proofs.AsksLaws.{footprint_within}
use Rattle.df_core.proofs.HopLaws.{each_shard, one_shard}
use Rattle.df_core.proofs.StandLaws.{on_asks, on_where_asked, hop_on, on_hop, spread_keys}

-- only a command that stands nowhere has no hop
pub no_hop : (course : Course) → has_hop course ≡ false → course ≡ Nowhere
no_hop Nowhere e = refl
no_hop (Alone s) e = absurd (true≢false e)
no_hop Spread e = absurd (true≢false e)
no_hop courses.Names e = absurd (true≢false e)
no_hop Counts e = absurd (true≢false e)
no_hop Cuts e = absurd (true≢false e)
no_hop Clears e = absurd (true≢false e)

-- the command has no hop
abbrev pub Hopless : ℕ → Command → Type 0
Hopless shards command = has_hop (course_of shards command) ≡ false

-- where a call asks for something there is a shard
pub asked : (shards : ℕ) (call : Call) (s : ℕ) → footprint_of shards call s ≢ None →
    (s < shards) × (footprint_of_commands shards s (commands_of call) ≢ None)
asked shards call s h = go (nat_lt s shards) refl h
  where
    go : (b : Bool) → nat_lt s shards ≡ b → cond b (footprint_of_commands shards s (commands_of call)) None ≢ None →
        (s < shards) × (footprint_of_commands shards s (commands_of call) ≢ None)
    go true e k = (ltb-true s shards e, k)
    go false e k = absurd (k refl)

-- ---- calls with no hop

nil_parts : {X : Type 0} (xs ys : List X) → xs ++ ys ≡ [] → (xs ≡ []) × (ys ≡ [])
nil_parts [] ys e = (refl, e)
nil_parts (x ∷ xs) ys e = cc

cons_nil : {X : Type 0} {A : Type 0} (x : X) (xs : List X) → x ∷ xs ≡ [] → A
cons_nil x xs e = cc

-- commands with no hop are done with no steps
pub none_done : (shards i : ℕ) (commands : List Command) (steps : ℕ → List Step) →
    ((d : Command) → Has commands d → Hopless shards d) → ((s : ℕ) → steps s ≡ []) →
    (marks : List Bool) × (replies : List Reply) × DoneAll shards i commands steps marks replies
none_done shards i [] steps none h = ([], [], h)
none_done shards i (c ∷ commands) steps none h =
    let v = none_done shards (suc i) commands steps (λ d k. none d (inr k)) h in (
      false ∷ v.0,
      (meaning c no_keys).0 ∷ v.1,
      ((λ s. []), steps, (λ s. refl), Done.nowhere (no_hop (course_of shards c) (none c (inl refl))) (λ s. refl), v.2),
    )

-- a call is complete where its commands are done, one after the other
pub gives_of : (shards : ℕ) (call : Call) (steps : ℕ → List Step) (marks : List Bool) (replies : List Reply) →
    DoneAll shards 0 (commands_of call) steps marks replies → (r : Reply) × Gives shards call steps r
gives_of shards (Single command) steps [] replies d = absurd d
gives_of shards (Single command) steps (kept ∷ marks) [] d = absurd d
gives_of shards (Single command) steps (kept ∷ []) (reply ∷ []) d = (reply, (kept, d))
gives_of shards (Single command) steps (kept ∷ m ∷ marks) (reply ∷ replies) d = absurd d.4
gives_of shards (Single command) steps (kept ∷ []) (reply ∷ r ∷ replies) d = absurd d.4
gives_of shards (Exec commands) steps marks replies d = (Array (all_of replies), (marks, replies, refl, d))

-- and nowhere else
pub of_gives : (shards : ℕ) (call : Call) (steps : ℕ → List Step) (r : Reply) → Gives shards call steps r →
    (marks : List Bool) × (replies : List Reply) × DoneAll shards 0 (commands_of call) steps marks replies
of_gives shards (Single command) steps r g = (g.0 ∷ [], r ∷ [], g.1)
of_gives shards (Exec commands) steps r g = (g.0, g.1, g.3)

module _ (shards : ℕ) (pos : 0 < shards) where
  none_hops : (call : Call) → ((s : ℕ) → s < shards → footprint_of shards call s ≡ None) → (d : Command) →
      Has (commands_of call) d → Hopless shards d
  none_hops call none d h = go (has_hop (course_of shards d)) refl
    where
      go : (b : Bool) → has_hop (course_of shards d) ≡ b → b ≡ false
      go false e = refl
      go true e =
          let v = hop_on shards d pos e in
          absurd (on_asks shards v.0 (commands_of call) d h v.2 (sym (footprint_within shards v.0 call v.1) ∙ none v.0 v.1))

  -- a call that asks for nothing anywhere is complete with no hop
  pub none_whole : (call : Call) (steps : ℕ → List Step) → ((s : ℕ) → s < shards → footprint_of shards call s ≡ None) →
      ((s : ℕ) → steps s ≡ []) → (r : Reply) × Gives shards call steps r
  none_whole call steps none h =
      let v = none_done shards 0 (commands_of call) steps (none_hops call none) h in
      gives_of shards call steps v.0 v.1 v.2

  shows_none : (i s : ℕ) (command : Command) (K : Keyspace) (steps : List Step) → Shows shards i s command K steps →
      steps ≡ [] → keys_on shards s command ≡ []
  shows_none i s command K _ (Shows.unnamed e) h = e
  shows_none i s command K _ (Shows.looked e f) h = cons_nil _ _ h
  shows_none i s command K _ (Shows.applied e) h = cons_nil _ _ h

  stops_none : (i s : ℕ) (command : Command) (steps : List Step) → Stops shards i s command steps → steps ≡ [] →
      keys_on shards s command ≡ []
  stops_none i s command _ (Stops.unnamed e) h = e
  stops_none i s command _ (Stops.read e told) h = cons_nil _ _ h

  undoes_none : (i s : ℕ) (command : Command) (K : Keyspace) (steps : List Step) → Undoes shards i s command K steps →
      steps ≡ [] → keys_on shards s command ≡ []
  undoes_none i s command K _ (Undoes.unnamed e) h = e
  undoes_none i s command K _ (Undoes.looked e f) h = cons_nil _ _ h
  undoes_none i s command K _ (Undoes.undone e told) h = cons_nil _ _ h

  spread_hopless : (command : Command) → course_of shards command ≡ Spread → ((s : ℕ) → keys_on shards s command ≡ []) →
      Hopless shards command
  spread_hopless command e h = let v = spread_keys shards command e in absurd (v.1 (h v.0))

  done_hopless : (i : ℕ) (command : Command) (own : ℕ → List Step) (kept : Bool) (reply : Reply) →
      Done shards i command own kept reply → ((s : ℕ) → own s ≡ []) → Hopless shards command
  done_hopless i command own _ _ (Done.nowhere e n) h = ap has_hop e
  done_hopless i command own _ _ (Done.nowhere_wanted e n) h = ap has_hop e
  done_hopless i command own _ _ (Done.ran s reply e x n) h = cons_nil _ _ (sym x ∙ h s)
  done_hopless i command own _ _ (Done.run_wanted s e x n) h = cons_nil _ _ (sym x ∙ h s)
  done_hopless i command own _ _ (Done.changed K e shows some) h = spread_hopless command e (λ s. shows_none i s command K (own s) (shows s) (h s))
  done_hopless i command own _ _ (Done.looked K e shows none) h = spread_hopless command e (λ s. shows_none i s command K (own s) (shows s) (h s))
  done_hopless i command own _ _ (Done.stopped e stops) h = spread_hopless command e (λ s. stops_none i s command (own s) (stops s) (h s))
  done_hopless i command own _ _ (Done.undone K e undoes some) h = spread_hopless command e (λ s. undoes_none i s command K (own s) (undoes s) (h s))
  done_hopless i command own _ _ (Done.names pattern names e on) h = cons_nil _ _ (sym (on.within 0 pos) ∙ h 0)
  done_hopless i command own _ _ (Done.counts numbers e on) h = cons_nil _ _ (sym (on.within 0 pos) ∙ h 0)
  done_hopless i command own _ _ (Done.names_wanted pattern told e on) h = cons_nil _ _ (sym (on.within 0 pos) ∙ h 0)
  done_hopless i command own _ _ (Done.counts_wanted told e on w) h = cons_nil _ _ (sym (on.within 0 pos) ∙ h 0)
  done_hopless i command own _ _ (Done.cuts pairs reply e on w) h = cons_nil _ _ (sym (on.within 0 pos) ∙ h 0)
  done_hopless i command own _ _ (Done.cleared e on) h = cons_nil _ _ (sym (on.within 0 pos) ∙ h 0)
  done_hopless i command own _ _ (Done.kept_all told e on w) h = cons_nil _ _ (sym (on.within 0 pos) ∙ h 0)

  done_none : (i : ℕ) (commands : List Command) (steps : ℕ → List Step) (marks : List Bool) (replies : List Reply) →
      DoneAll shards i commands steps marks replies → ((s : ℕ) → steps s ≡ []) → (d : Command) → Has commands d →
      Hopless shards d
  done_none i [] steps marks replies g h d k = absurd k
  done_none i (c ∷ commands) steps [] replies g h d k = absurd g
  done_none i (c ∷ commands) steps (kept ∷ marks) [] g h d k = absurd g
  done_none i (c ∷ commands) steps (kept ∷ marks) (reply ∷ replies) g h d k =
      let empty : (s : ℕ) → (g.0 s ≡ []) × (g.1 s ≡ []) = λ s. nil_parts (g.0 s) (g.1 s) (sym (g.2 s) ∙ h s) in
      elim k [
        | inl e ↦ subst (Hopless shards) e (done_hopless i c g.0 kept reply g.3 (λ s. (empty s).0))
        | inr m ↦ done_none (suc i) commands g.1 marks replies g.4 (λ s. (empty s).1) d m
      ]

  -- a call that is complete with no hop asks for nothing anywhere
  pub whole_some : (call : Call) (steps : ℕ → List Step) (r : Reply) → Gives shards call steps r →
      ((s : ℕ) → steps s ≡ []) → (s : ℕ) → footprint_of shards call s ≡ None
  whole_some call steps r g h s = go (footprint_of shards call s) refl
    where
      go : (o : Option Keys) → footprint_of shards call s ≡ o → o ≡ None
      go None e = refl
      go (Some keys) e =
          let a = asked shards call s (λ i. none-some keys (sym i ∙ e)) in
          let v = on_where_asked shards s (commands_of call) a.1 in
          let d = of_gives shards call steps r g in
          absurd (false≢true (sym (done_none 0 (commands_of call) steps d.0 d.1 d.2 h v.0 v.1) ∙ on_hop shards s v.0 v.2))

-- ---- where all hops ran nothing is staged

-- what is staged for a call after its steps
through : List Step → Changes → Changes
through [] changes = changes
through (st ∷ steps) changes = through steps (staged_after st.act st.told changes)

staged_through : (n : ℕ) (steps : List Step) (x : Part) → (after_steps n steps x).staged n ≡ through steps (x.staged n)
unfolding through
staged_through n [] x = refl
staged_through n (st ∷ steps) x =
    staged_through n steps (after_act n st.act st.told x) ∙ ap (through steps) (put_same n n (staged_after st.act st.told (x.staged n)) x.staged refl)

through_append : (xs ys : List Step) (changes : Changes) → through (xs ++ ys) changes ≡ through ys (through xs changes)
unfolding through
through_append [] ys changes = refl
through_append (x ∷ xs) ys changes = through_append xs ys (staged_after x.act x.told changes)

-- nothing is staged after these steps, where nothing was before
Bare : List Step → Type 0
Bare steps = through steps [] ≡ []

shows_bare : (shards i s : ℕ) (command : Command) (K : Keyspace) (steps : List Step) →
    Shows shards i s command K steps → through steps [] ≡ []
unfolding through
shows_bare shards i s command K _ (Shows.unnamed e) = refl
shows_bare shards i s command K _ (Shows.looked e f) = refl
shows_bare shards i s command K _ (Shows.applied e) = refl

stops_bare : (shards i s : ℕ) (command : Command) (steps : List Step) → Stops shards i s command steps → through steps [] ≡ []
unfolding through
stops_bare shards i s command _ (Stops.unnamed e) = refl
stops_bare shards i s command _ (Stops.read e told) = either_way (did told) []

undoes_bare : (shards i s : ℕ) (command : Command) (K : Keyspace) (steps : List Step) →
    Undoes shards i s command K steps → through steps [] ≡ []
unfolding through
undoes_bare shards i s command K _ (Undoes.unnamed e) = refl
undoes_bare shards i s command K _ (Undoes.looked e f) = refl
undoes_bare shards i s command K _ (Undoes.undone e told) = refl

done_bare : (shards i : ℕ) (command : Command) (own : ℕ → List Step) (kept : Bool) (reply : Reply) →
    Done shards i command own kept reply → (s : ℕ) → through (own s) [] ≡ []
unfolding through Bare
done_bare shards i command own _ _ (Done.nowhere e n) s = ap (λ l. through l []) (n s)
done_bare shards i command own _ _ (Done.nowhere_wanted e n) s = ap (λ l. through l []) (n s)
done_bare shards i command own _ _ (Done.ran t reply e x n) s = one_shard Bare own t _ x n refl refl s
done_bare shards i command own _ _ (Done.run_wanted t e x n) s = one_shard Bare own t _ x n refl refl s
done_bare shards i command own _ _ (Done.changed K e shows some) s = shows_bare shards i s command K (own s) (shows s)
done_bare shards i command own _ _ (Done.looked K e shows none) s = shows_bare shards i s command K (own s) (shows s)
done_bare shards i command own _ _ (Done.stopped e stops) s = stops_bare shards i s command (own s) (stops s)
done_bare shards i command own _ _ (Done.undone K e undoes some) s = undoes_bare shards i s command K (own s) (undoes s)
done_bare shards i command own _ _ (Done.names pattern names e on) s = each_shard Bare shards own _ on refl (λ t. refl) s
done_bare shards i command own _ _ (Done.counts numbers e on) s = each_shard Bare shards own _ on refl (λ t. refl) s
done_bare shards i command own _ _ (Done.names_wanted pattern told e on) s =
    each_shard Bare shards own _ on refl (λ t. either_way (did (told t)) []) s
done_bare shards i command own _ _ (Done.counts_wanted told e on w) s = each_shard Bare shards own _ on refl (λ t. either_way (did (told t)) []) s
done_bare shards i command own _ _ (Done.cuts pairs reply e on w) s = each_shard Bare shards own _ on refl (λ t. refl) s
done_bare shards i command own _ _ (Done.cleared e on) s = each_shard Bare shards own _ on refl (λ t. refl) s
done_bare shards i command own _ _ (Done.kept_all told e on w) s = each_shard Bare shards own _ on refl (λ t. refl) s

all_bare : (shards i : ℕ) (commands : List Command) (steps : ℕ → List Step) (marks : List Bool) (replies : List Reply) →
    DoneAll shards i commands steps marks replies → (s : ℕ) → through (steps s) [] ≡ []
unfolding through
all_bare shards i [] steps [] [] g s = ap (λ l. through l []) (g s)
all_bare shards i [] steps [] (reply ∷ replies) g s = absurd g
all_bare shards i [] steps (kept ∷ marks) replies g s = absurd g
all_bare shards i (c ∷ commands) steps [] replies g s = absurd g
all_bare shards i (c ∷ commands) steps (kept ∷ marks) [] g s = absurd g
all_bare shards i (c ∷ commands) steps (kept ∷ marks) (reply ∷ replies) g s =
    ap (λ l. through l []) (g.2 s) ∙ through_append (g.0 s) (g.1 s) []
    ∙ ap (through (g.1 s)) (done_bare shards i c g.0 kept reply g.3 s) ∙ all_bare shards (suc i) commands g.1 marks replies g.4 s

-- whatever the steps were told
pub whole_bare : (shards : ℕ) (call : Call) (steps : ℕ → List Step) (r : Reply) (n s : ℕ) (x : Part) →
    Gives shards call steps r → x.staged n ≡ [] → (after_steps n (steps s) x).staged n ≡ []
whole_bare shards call steps r n s x g e =
    let d = of_gives shards call steps r g in
    staged_through n (steps s) x ∙ ap (through (steps s)) e ∙ all_bare shards 0 (commands_of call) steps d.0 d.1 d.2 s
