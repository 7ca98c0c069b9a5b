-- A command before its turn has what it is to ask first, and asks that once its turn comes.
use Rattle.std.proofs.Common.{◌≡◌, ◌≢◌, ℕ, ◌<◌, ◌≤◌, true, false, cond, is_some, List, [], ◌∷◌, map, length, inl, inr, refl, sym, ap, subst, ◌∙◌, arith}
use Rattle.std.specs.Prelude.{Option, Some, None, ◌||◌}
use Rattle.std.specs.Option.{option_map}
use Rattle.std.specs.Global.{Box}
use Rattle.std.specs.FinMap as fin
use Rattle.std.proofs.lemmas.Bool.{lt-ltb, cases_lt}
use Rattle.std.proofs.lemmas.List.{get_or_past}
use Rattle.std.proofs.lemmas.Option.{none-some}
use Rattle.df_model.specs.Values.{Bytes}
use Rattle.df_model.specs.Access.{Access, among}
use Rattle.df_model.proofs.WholeLaws.{first_among}
use Rattle.df_model.specs.declared.command.Command.{Command}
use Rattle.df_model.specs.declared.command.Command.TheVariants.{Plain, One, Many, Whole, Wrong}
use Rattle.df_model.specs.declared.command.Call.TheVariants.{Single}
use Rattle.df_model.specs.declared.keys.Mode.{Mode}
use Rattle.df_model.specs.declared.keys.Keys.{Keys}
use Rattle.df_model.specs.declared.keys.Keys.TheVariants as kinds
use Rattle.df_footprints.specs.Footprints.{access_of, whole_mode, footprint_of, footprint_of_commands, modes_on, mode_of_all, some_keys}
use Rattle.df_footprints.proofs.ModesLaws.{named_there}
use Rattle.df_log.specs.Acts.{Act}
use Rattle.df_core.specs.Courses.{Nowhere, Alone, Spread, Counts, Cuts, Clears, course_of, keys_on}
use Rattle.df_core.specs.Courses as courses
use Rattle.df_core.specs.Due.{some}
use Rattle.df_core.proofs.CourseLaws.{below_shards, spread_access, names_whole, counts_whole}
use Rattle.df_core.proofs.StandLaws.{spread_keys}
use Rattle.df_core.proofs.HopLaws.{one_passes}
use Rattle.df_rounds.specs.Standing.{Standing, Fresh, asks, hop_of, goes_on, read_of, on_shards, first_asked, first_hop}
use Rattle.df_rounds.proofs.ToldLaws.{on-in, on-out}
use Rattle.df_hops.specs.Parts.{act_of}
use Rattle.df_keys.specs.Asked.{FootprintsStand, footprint_there}
use Rattle.df_turn.specs.Asked.{IsNaming, keys_named, read_named}
use Rattle.df_turn.specs.Steps.{BeginsBare, BeginsWhole, BeginsReading, KeepsNamed}
use Rattle.df_turn.specs.Turns.{Asking, Keeps, KeepsFresh, KeepsReady, Ready, asked_at_once, part_for}
use Rattle.df_turn.specs.declared.course.Course.TheVariants as found
use Rattle.df_turn.specs.declared.turn.Rest.{Rest}
use Rattle.df_turn.specs.declared.turn.Rest.TheVariants as rests
use Rattle.df_turn.specs.declared.turn.Turn.{Turn}

-- ---- what asking takes

-- by the course
pub asking_by : (shards : ℕ) (command : Command) (standing : Standing) (turn : Turn) (course : courses.Course) → course_of shards command ≡ course →
    Keeps shards command standing turn.rest → goes_on shards command course standing ≡ true → turn.hop ≡ hop_of shards command course standing →
    length turn.parts.items ≡ shards →
    ((s : ℕ) → option_map act_of (part_for s turn.parts.items) ≡ asks shards command course standing s) → Asking shards 0 command standing turn
asking_by shards command standing turn course e keeps goes hop count parts = record {
  keeps = keeps;
  goes = ap (λ c. goes_on shards command c standing) e ∙ goes;
  hop = hop ∙ sym (ap (λ c. hop_of shards command c standing) e);
  count = count;
  parts = λ s le. parts s ∙ sym (ap (λ c. asks shards command c standing s) e);
}

-- nothing is there past the last shard
pub past : (shards s : ℕ) (turn : Turn) → length turn.parts.items ≡ shards → shards ≤ s → option_map act_of (part_for s turn.parts.items) ≡ None
past shards s turn count le = let far : length turn.parts.items ≤ s = omega arith in ap (option_map act_of) (get_or_past turn.parts.items s None far)

-- what is there on each shard is what is asked of it
pub parts_by : (shards : ℕ) (asked : ℕ → Option Act) (turn : Turn) → length turn.parts.items ≡ shards →
    ((s : ℕ) → s < shards → option_map act_of (part_for s turn.parts.items) ≡ asked s) → (s : ℕ) →
    option_map act_of (part_for s turn.parts.items) ≡ on_shards shards asked s
parts_by shards asked turn count here s = elim (cases_lt s shards) [
  | inl lt ↦ here s lt ∙ sym (on-in shards asked s lt)
  | inr le ↦ past shards s turn count le ∙ sym (on-out shards asked s le)
]

-- some shard is asked
pub goes_by : (shards s : ℕ) (asked : ℕ → Option Act) (act : Act) → s < shards → asked s ≡ Some act →
    some (λ t. is_some (on_shards shards asked t)) shards ≡ true
goes_by shards s asked act lt e = one_passes (λ t. is_some (on_shards shards asked t)) shards s lt (ap is_some (on-in shards asked s lt ∙ e))

-- ---- before its turn

-- by the course
ready_by : (shards : ℕ) (command : Command) (turn : Turn) (course : courses.Course) → course_of shards command ≡ course →
    KeepsReady shards command turn.rest → turn.hop ≡ first_hop course → length turn.parts.items ≡ shards →
    ((s : ℕ) → option_map act_of (part_for s turn.parts.items) ≡ asked_at_once shards command course s) → Ready shards command turn
ready_by shards command turn course e keeps hop count parts = record {
  keeps = keeps;
  hop = hop ∙ sym (ap first_hop e);
  count = count;
  parts = λ s. parts s ∙ sym (ap (λ c. asked_at_once shards command c s) e);
}

pub ready_nowhere : (shards : ℕ) (command : Command) (turn : Turn) → course_of shards command ≡ Nowhere → BeginsBare shards rests.Nowhere turn →
    Ready shards command turn
ready_nowhere shards command turn e b =
    ready_by shards command turn Nowhere e (subst (KeepsReady shards command) (sym b.rest) e) b.hop b.count (λ s. ap (option_map act_of) (b.parts s))

pub ready_alone : (shards s : ℕ) (room : Box Command) (command : Command) (turn : Turn) → course_of shards command ≡ Alone s →
    BeginsBare shards (rests.Waiting s room) turn → Ready shards command turn
ready_alone shards s room command turn e b =
    ready_by shards command turn (Alone s) e (subst (KeepsReady shards command) (sym b.rest) e) b.hop b.count (λ t. ap (option_map act_of) (b.parts t))

pub ready_names : (shards : ℕ) (command : Command) (turn : Turn) → course_of shards command ≡ courses.Names →
    BeginsWhole shards found.Names rests.Walking turn → Ready shards command turn
ready_names shards command turn e b =
    ready_by shards command turn courses.Names e (subst (KeepsReady shards command) (sym b.rest) (names_whole shards command e)) b.hop b.count
    (parts_by shards (first_asked shards command courses.Names) turn b.count (b.parts command))

pub ready_counts : (shards : ℕ) (command : Command) (turn : Turn) → course_of shards command ≡ Counts →
    BeginsWhole shards found.Counts rests.Counting turn → Ready shards command turn
ready_counts shards command turn e b =
    ready_by shards command turn Counts e (subst (KeepsReady shards command) (sym b.rest) (counts_whole shards command e)) b.hop b.count
    (parts_by shards (first_asked shards command Counts) turn b.count (b.parts command))

pub ready_cuts : (shards : ℕ) (command : Command) (turn : Turn) → course_of shards command ≡ Cuts →
    BeginsWhole shards found.Cuts rests.Cutting turn → Ready shards command turn
ready_cuts shards command turn e b =
    ready_by shards command turn Cuts e (subst (KeepsReady shards command) (sym b.rest) e) b.hop b.count
    (parts_by shards (first_asked shards command Cuts) turn b.count (b.parts command))

pub ready_clears : (shards : ℕ) (command : Command) (turn : Turn) → course_of shards command ≡ Clears →
    BeginsWhole shards found.Clears rests.Clearing turn → Ready shards command turn
ready_clears shards command turn e b =
    ready_by shards command turn Clears e (subst (KeepsReady shards command) (sym b.rest) e) b.hop b.count
    (parts_by shards (first_asked shards command Clears) turn b.count (b.parts command))

-- ---- keys on several shards

not-whole : (command : Command) (a : Access) → access_of command ≡ Some a → whole_mode command ≡ None
not-whole (Plain op) a e = refl
not-whole (One key op) a e = refl
not-whole (Many op) a e = refl
not-whole (Whole op) a e = absurd (none-some a e)
not-whole (Wrong error) a e = refl

-- what its call asks for on a shard are its keys there
named_on : (shards s : ℕ) (command : Command) → course_of shards command ≡ Spread → s < shards →
    footprint_of shards (Single command) s ≡ some_keys (fin.entries (modes_on shards s (command ∷ [])))
named_on shards s command e lt =
    let a = spread_access shards command e in
    ap (λ b. cond b (footprint_of_commands shards s (command ∷ [])) None) (lt-ltb s shards lt)
    ∙ ap (λ m. cond (is_some m || false) (Some (kinds.All (mode_of_all (command ∷ [])))) (some_keys (fin.entries (modes_on shards s (command ∷ [])))))
    (not-whole command a.0 a.1)

naming-keys : (es : List (Bytes × Mode)) → IsNaming (some_keys es)
naming-keys [] = tt
naming-keys (e ∷ es) = tt

read-keys : (es : List (Bytes × Mode)) → read_named (some_keys es) ≡ read_of (map (λ e. e.0) es)
read-keys [] = refl
read-keys (e ∷ es) = refl

kept-keys : (es : List (Bytes × Mode)) → keys_named (some_keys es) ≡ es
kept-keys [] = refl
kept-keys (e ∷ es) = refl

module _ (shards : ℕ) (command : Command) (keys : List (Option (Box Keys))) (e : course_of shards command ≡ Spread)
    (stand : FootprintsStand shards (Single command) keys) where
  named_at : (s : ℕ) → s < shards → footprint_there s keys ≡ some_keys (fin.entries (modes_on shards s (command ∷ [])))
  named_at s lt = stand.1 s lt ∙ named_on shards s command e lt

  -- no shard is asked for all its keys
  pub naming : (s : ℕ) → s < length keys → IsNaming (footprint_there s keys)
  naming s lt =
      let here : s < shards = omega (arith, lt, stand.0) in
      subst IsNaming (sym (named_at s here)) (naming-keys (fin.entries (modes_on shards s (command ∷ []))))

  keeps-keys : (rest : Rest) → KeepsNamed keys rest → KeepsReady shards command rest
  keeps-keys rests.Nowhere k = absurd k
  keeps-keys (rests.Waiting s room) k = absurd k
  keeps-keys (rests.Running s) k = absurd k
  keeps-keys rests.Cutting k = absurd k
  keeps-keys rests.Counting k = absurd k
  keeps-keys rests.Walking k = absurd k
  keeps-keys rests.Clearing k = absurd k
  keeps-keys (rests.Cleared wanted) k = absurd k
  keeps-keys (rests.Reading kept) k =
      (e, record { count = k.0 ∙ stand.0; each = λ s lt. k.1 s ∙ ap keys_named (named_at s lt) ∙ kept-keys (fin.entries (modes_on shards s (command ∷ []))) })
  keeps-keys (rests.Staging reply) k = absurd k
  keeps-keys (rests.Ending wanted reply) k = absurd k

  pub ready_reading : (turn : Turn) → BeginsReading keys turn → Ready shards command turn
  ready_reading turn b =
      ready_by shards command turn Spread e (keeps-keys turn.rest b.keeps) b.hop (b.count ∙ stand.0)
      (parts_by shards (first_asked shards command Spread) turn (b.count ∙ stand.0)
      (λ s lt. b.parts s ∙ ap read_named (named_at s lt) ∙ read-keys (fin.entries (modes_on shards s (command ∷ [])))))

-- ---- its turn comes

-- a key stands somewhere
reads-some : (shards : ℕ) (command : Command) → course_of shards command ≡ Spread → 0 < shards →
    (s : ℕ) × ((s < shards) × ((act : Act) × (first_asked shards command Spread s ≡ Some act)))
reads-some shards command e pos = let there = spread_keys shards command e in (there.0, go there.0 (keys_on shards there.0 command) refl there.1)
  where
    go : (s : ℕ) (ks : List Bytes) → keys_on shards s command ≡ ks → keys_on shards s command ≢ [] →
        (s < shards) × ((act : Act) × (read_of (keys_on shards s command) ≡ Some act))
    go s [] is none = absurd (none is)
    go s (k ∷ ks) is none =
        let here = named_there shards s (command ∷ []) k (ap (λ l. among l k) is ∙ first_among k ks) in
        (subst (λ t. t < shards) here.0 (below_shards k shards pos), (_, ap read_of is))

-- what was made before is what is asked first
asking_from : (shards : ℕ) (command : Command) (turn : Turn) (course : courses.Course) → Ready shards command turn → course_of shards command ≡ course →
    KeepsFresh shards command turn.rest → goes_on shards command course Fresh ≡ true →
    ((s : ℕ) → asked_at_once shards command course s ≡ asks shards command course Fresh s) → Asking shards 0 command Fresh turn
asking_from shards command turn course r e keeps goes same =
    asking_by shards command Fresh turn course e keeps goes (r.hop ∙ ap first_hop e) r.count
    (λ s. r.parts s ∙ ap (λ c. asked_at_once shards command c s) e ∙ same s)

-- of a command that asks several shards, or all
pub begins : (shards : ℕ) (command : Command) (turn : Turn) → 0 < shards → Ready shards command turn → turn.rest ≢ rests.Nowhere →
    ((s : ℕ) (room : Box Command) → turn.rest ≢ rests.Waiting s room) → Asking shards 0 command Fresh turn
begins shards command turn pos r named several = go turn.rest refl r.keeps
  where
    go : (rest : Rest) → turn.rest ≡ rest → KeepsReady shards command rest → Asking shards 0 command Fresh turn
    go rests.Nowhere is k = absurd (named is)
    go (rests.Waiting s room) is k = absurd (several s room is)
    go (rests.Running s) is k = absurd k
    go rests.Cutting is k =
        asking_from shards command turn Cuts r k (subst (KeepsFresh shards command) (sym is) k)
        (goes_by shards 0 (first_asked shards command Cuts) _ pos refl) (λ s. refl)
    go rests.Counting is k =
        asking_from shards command turn Counts r (ap (course_of shards) k) (subst (KeepsFresh shards command) (sym is) k)
        (goes_by shards 0 (first_asked shards command Counts) _ pos refl) (λ s. refl)
    go rests.Walking is k =
        asking_from shards command turn courses.Names r (ap (course_of shards) k.1) (subst (KeepsFresh shards command) (sym is) k)
        (goes_by shards 0 (first_asked shards command courses.Names) _ pos refl) (λ s. refl)
    go rests.Clearing is k =
        asking_from shards command turn Clears r k (subst (KeepsFresh shards command) (sym is) k)
        (goes_by shards 0 (first_asked shards command Clears) _ pos refl) (λ s. refl)
    go (rests.Cleared wanted) is k = absurd k
    go (rests.Reading keys) is k =
        let there = reads-some shards command k.0 pos in
        asking_from shards command turn Spread r k.0 (subst (KeepsFresh shards command) (sym is) k)
        (goes_by shards there.0 (first_asked shards command Spread) there.1.1.0 there.1.0 there.1.1.1) (λ s. refl)
    go (rests.Staging reply) is k = absurd k
    go (rests.Ending wanted reply) is k = absurd k
