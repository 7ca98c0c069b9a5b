-- DBSIZE, KEYS, SAVE and FLUSHALL from round to round.
use Rattle.std.proofs.Common.{◌≡◌, ◌⊎◌, ℕ, Bool, false, cond, List, length, inl, inr, refl, sym, ap, subst, ◌∙◌}
use Rattle.std.specs.Prelude.{Option}
use Rattle.std.specs.List.{filter}
use Rattle.df_model.specs.Values.{Bytes}
use Rattle.df_model.specs.Members as members
use Rattle.df_model.specs.Patterns.{is_match}
use Rattle.df_model.specs.Outcomes.{bulks, count, ok}
use Rattle.df_model.specs.declared.command.WholeOp.TheVariants as wholes
use Rattle.df_model.specs.declared.command.Command.{Command}
use Rattle.df_model.specs.declared.command.Command.TheVariants.{Whole}
use Rattle.df_model.specs.declared.reply.ErrorText.TheVariants as errors
use Rattle.df_model.specs.declared.reply.Reply.TheVariants.{Error}
use Rattle.df_log.specs.Acts as acts
use Rattle.df_log.specs.Acts.{Told, Clear}
use Rattle.df_core.specs.Courses.{Counts, Cuts, Clears, course_of}
use Rattle.df_core.specs.Courses as courses
use Rattle.df_core.specs.Done.{want_of_memory}
use Rattle.df_rounds.specs.Standing.{Standing, Fresh, Once, Twice, Thrice, then_told, first_asked, second_asked, third_asked, round_wanted}
use Rattle.df_rounds.specs.Replies.{names_reply}
use Rattle.df_hops.specs.declared.answer.Outcome.{Outcome}
use Rattle.df_exchange.specs.Asks.{heard_of}
use Rattle.df_turn.specs.Heard.{all_names, ends_as, some_want, sum_heard}
use Rattle.df_turn.specs.Steps.{Ends, Goes, Says}
use Rattle.df_turn.specs.Turns.{IsAnswered, Keeps, KeepsOnce}
use Rattle.df_turn.specs.declared.turn.Rest.{Rest}
use Rattle.df_turn.specs.declared.turn.Rest.TheVariants as rests
use Rattle.df_turn.specs.declared.turn.Turn.{Turn}
use Rattle.df_turn.specs.declared.turn.Next.{Next}
use Rattle.df_turn.specs.declared.turn.Next.TheVariants as nexts
use Rattle.df_turn.proofs.HeardLaws.{wants, ends, sums, named}
use Rattle.df_turn.proofs.BeginLaws.{asking_by, goes_by}
use Rattle.df_turn.proofs.OverLaws.{over_by, over_saved, stop_by, none-asked, heard_by, lent_by}

module _ (shards : ℕ) (command : Command) (told : ℕ → Told) (turn : Turn) (lent : Command) (heard : List (Option Outcome)) where
  abbrev Answered : Standing → Type 0
  Answered standing = IsAnswered shards command standing told turn lent heard

  -- what is kept
  pub kept : (standing : Standing) (rest : Rest) → turn.rest ≡ rest → Answered standing → Keeps shards command standing rest
  kept standing rest is a = subst (Keeps shards command standing) is a.asking.keeps

  -- of each shard one answer was taken, and it may be asked once more
  pub counts_agree : (standing : Standing) → Answered standing → length turn.parts.items ≡ length heard
  counts_agree standing a = a.asking.count ∙ sym a.count

  -- ---- DBSIZE

  pub counted_goes : (standing : Standing) (new : Turn) (next : Next) → turn.rest ≡ rests.Counting → Answered standing →
      Says next (cond (some_want (length heard) heard) want_of_memory (count (sum_heard (length heard) heard))) →
      Goes next shards command (then_told told standing) new
  counted_goes standing new next is a says = go standing a (kept standing rests.Counting is a)
    where
      go : (standing : Standing) → Answered standing → Keeps shards command standing rests.Counting →
          Goes next shards command (then_told told standing) new
      go Fresh a e =
          let by : course_of shards command ≡ Counts = ap (course_of shards) e in
          let all = heard_by shards command Fresh told heard Counts by a.heard in
          over_by shards command (Once told) new next Counts _ by (none-asked shards (second_asked shards command Counts told) (λ s. refl))
          (sym ((λ j. cond (some_want (a.count j) heard) want_of_memory (count (sum_heard (a.count j) heard)))
          ∙ (λ j. cond (wants shards (first_asked shards command Counts) told heard all j) want_of_memory
          (count (sums shards (first_asked shards command Counts) told heard all acts.Count (λ s. refl) j)))))
          says
      go (Once x) a k = absurd k
      go (Twice x y) a k = absurd k
      go (Thrice x y z) a k = absurd k

  -- ---- KEYS

  pub walked_lent : (standing : Standing) → turn.rest ≡ rests.Walking → Answered standing → (pattern : Bytes) × (lent ≡ Whole (wholes.Keys pattern))
  walked_lent standing is a = go standing a (kept standing rests.Walking is a)
    where
      go : (standing : Standing) → Answered standing → Keeps shards command standing rests.Walking → (pattern : Bytes) × (lent ≡ Whole (wholes.Keys pattern))
      go Fresh a k = (k.0, lent_by shards command lent courses.Names (ap (course_of shards) k.1) a.lent ∙ k.1)
      go (Once x) a k = absurd k
      go (Twice x y) a k = absurd k
      go (Thrice x y z) a k = absurd k

  pub walked_goes : (standing : Standing) (new : Turn) (next : Next) → turn.rest ≡ rests.Walking → Answered standing →
      ((pattern : Bytes) → lent ≡ Whole (wholes.Keys pattern) → Says next want_of_memory ⊎ ((some_want (length heard) heard ≡ false) × Says next (bulks (filter (is_match pattern) (members.items (all_names (length heard) heard)))))) →
      Goes next shards command (then_told told standing) new
  walked_goes standing new next is a says = go standing a (kept standing rests.Walking is a)
    where
      go : (standing : Standing) → Answered standing → Keeps shards command standing rests.Walking →
          Goes next shards command (then_told told standing) new
      go Fresh a k =
          let by : course_of shards command ≡ courses.Names = ap (course_of shards) k.1 in
          let all = heard_by shards command Fresh told heard courses.Names by a.heard in
          elim (says k.0 (lent_by shards command lent courses.Names by a.lent ∙ k.1)) [
            | inl want ↦ stop_by shards command (Once told) new next courses.Names by refl want
            | inr over ↦
                over_by shards command (Once told) new next courses.Names _ by (none-asked shards (second_asked shards command courses.Names told) (λ s. refl))
                ((λ j. cond (sym (wants shards (first_asked shards command courses.Names) told heard all) j) want_of_memory
                (names_reply command (sym (named shards (first_asked shards command courses.Names) told heard all acts.Walk (λ s. refl)) j)))
                ∙ (λ j. cond (sym (ap (λ n. some_want n heard) a.count) j) want_of_memory (names_reply (k.1 j) (all_names (sym a.count j) heard)))
                ∙ ap (λ w. cond w want_of_memory (bulks (filter (is_match k.0) (members.items (all_names (length heard) heard))))) over.0)
                over.1
          ]
      go (Once x) a k = absurd k
      go (Twice x y) a k = absurd k
      go (Thrice x y z) a k = absurd k

  -- ---- SAVE

  pub saved_goes : (standing : Standing) (new : Turn) (next : Next) → turn.rest ≡ rests.Cutting → Answered standing → Says next (Error errors.SaveFailed) →
      Goes next shards command (then_told told standing) new
  saved_goes standing new next is a says = go standing (kept standing rests.Cutting is a)
    where
      go : (standing : Standing) → Keeps shards command standing rests.Cutting → Goes next shards command (then_told told standing) new
      go Fresh by =
          over_saved shards command (Once told) new next Cuts (Error errors.SaveFailed) (Error errors.SaveFailed) (inr (inl refl)) by
          (none-asked shards (second_asked shards command Cuts told) (λ s. refl)) refl says
      go (Once x) k = absurd k
      go (Twice x y) k = absurd k
      go (Thrice x y z) k = absurd k

  -- ---- FLUSHALL

  pub clear_goes : (standing : Standing) (new : Turn) (next : Next) → turn.rest ≡ rests.Clearing → Answered standing → next ≡ nexts.Asks →
      Ends (some_want (length heard) heard) Clear heard new → new.rest ≡ rests.Cleared (some_want (length heard) heard) →
      Goes next shards command (then_told told standing) new
  clear_goes standing new next is a asks e rest = go standing a (kept standing rests.Clearing is a)
    where
      go : (standing : Standing) → Answered standing → Keeps shards command standing rests.Clearing →
          Goes next shards command (then_told told standing) new
      go Fresh a by =
          let all = heard_by shards command Fresh told heard Clears by a.heard in
          let first = first_asked shards command Clears in
          let here : length new.parts.items ≡ shards = e.count ∙ a.count in
          let wanted : some_want (length heard) heard ≡ round_wanted shards first told =
          ap (λ n. some_want n heard) a.count ∙ wants shards first told heard all in
          subst (λ n. Goes n shards command (Once told) new) (sym asks)
          (asking_by shards command (Once told) new Clears by
          (subst (KeepsOnce shards command told) (sym rest) (by, wanted))
          (goes_by shards 0 (second_asked shards command Clears told) _ a.some refl)
          (e.hop ∙ ap (λ w. cond w 3 2) wanted) here
          (λ s. e.parts s ∙ ap (λ n. ends_as (some_want n heard) Clear (heard_of s heard)) a.count ∙ ends shards first told heard all Clear s))
      go (Once x) a k = absurd k
      go (Twice x y) a k = absurd k
      go (Thrice x y z) a k = absurd k

  pub cleared_goes : (standing : Standing) (new : Turn) (next : Next) (wanted : Bool) → turn.rest ≡ rests.Cleared wanted → Answered standing →
      Says next (cond wanted want_of_memory ok) → Goes next shards command (then_told told standing) new
  cleared_goes standing new next wanted is a says = go standing (kept standing (rests.Cleared wanted) is a)
    where
      go : (standing : Standing) → Keeps shards command standing (rests.Cleared wanted) → Goes next shards command (then_told told standing) new
      go Fresh k = absurd k
      go (Once x) k =
          over_by shards command (Twice x told) new next Clears _ k.0 (none-asked shards (third_asked shards command Clears x told) (λ s. refl))
          (ap (λ w. cond w want_of_memory ok) (sym k.1)) says
      go (Twice x y) k = absurd k
      go (Thrice x y z) k = absurd k
