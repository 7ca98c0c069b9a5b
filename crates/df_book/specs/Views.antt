-- What a seat of the table knows, what each step makes of it, and what contracts see of it.
use Rattle.std.specs.Prelude.{ℕ, suc, ◌+◌, ◌-◌, List, [], ◌∷◌, ◌++◌, map}
use Rattle.df_model.specs.declared.command.Call.{Call}
use Rattle.df_log.specs.declared.entry.Entry.{Entry}
use Rattle.df_book.specs.Weights.{head_or, tail, from_on}
use Rattle.df_book.specs.Logs.{at_log, with_log, longer, floor_of}
use Rattle.df_book.specs.Draws.{last_number}
use Rattle.df_book.specs.declared.draw.Draw.{Draw}
use Rattle.df_book.specs.declared.view.Note.{Note}
use Rattle.df_book.specs.declared.view.Note.TheVariants as note
use Rattle.df_book.specs.declared.view.View.{View}

abbrev pub blank : View
blank = record { first = 0; splits = 0; budget = 0; sessions = []; own = []; made = []; known = []; runs = []; counted = []; owns = []; shows = 0; seen = []; left = []; right = []; note = note.Nothing }

-- the first pass has all logs, until they are dealt out
abbrev pub opening_view : ℕ → ℕ → View
opening_view shards draws = record blank { first = 1; budget = draws; owns = from_on 0 (suc shards) }

abbrev pub noting : View → Note → View
noting v n = record v { note = n }

-- ---- passes are split off

abbrev pub cut_of : Note → ℕ
cut_of (note.Cut k) = k
cut_of note.Nothing = 0
cut_of (note.Draw c) = 0
cut_of (note.Enter e) = 0

abbrev pub after_cut : View → View
after_cut v = record v { splits = v.splits + 1; budget = v.budget - cut_of v.note; note = note.Nothing }

abbrev pub cut_off : View → View
cut_off v = record blank { budget = cut_of v.note; sessions = v.splits ∷ []; seen = v.seen }

abbrev pub after_shard : View → View
after_shard v = record v { owns = tail v.owns }

abbrev pub shard_off : View → View
shard_off v = record blank { owns = head_or 0 v.owns ∷ []; seen = v.seen }

-- ---- draws and entries

abbrev pub new_draw : View → Call → ℕ → Draw
new_draw v call n = record { session = head_or 0 v.sessions; number = n; call = call; floor = floor_of v.seen }

abbrev pub drawn : View → Call → ℕ → View
drawn v call n = record v { budget = v.budget - 1; own = v.own ++ new_draw v call n ∷ []; note = note.Nothing }

abbrev pub entered : View → Entry → View
entered v e = record v { seen = with_log v.seen (head_or 0 v.owns) (at_log v.seen (head_or 0 v.owns) ++ e ∷ []); note = note.Nothing }

-- ---- tickets and receipts are cut off

abbrev pub ticket_off : View → View
ticket_off v = record blank { known = v.own; seen = v.seen }

abbrev pub made_running : View → View
made_running v = record v { made = v.made ++ last_number v.own ∷ [] }

abbrev pub running_off : View → View
running_off v = record blank { known = v.own; seen = v.seen; runs = last_number v.own ∷ [] }

abbrev pub receipt_off : View → View
receipt_off v = record blank { known = v.known; shows = head_or 0 v.owns; seen = v.seen }

-- ---- two seats become one, and then learn that what they had seen fits

abbrev pub longer_each : List (List Entry) → List (List Entry) → List (List Entry)
longer_each [] ys = ys
longer_each (x ∷ xs) [] = x ∷ xs
longer_each (x ∷ xs) (y ∷ ys) = longer x y ∷ longer_each xs ys

-- those of xs that are owned, and else those of ys
abbrev pub own_first : List ℕ → List (List Entry) → List (List Entry) → List (List Entry)
own_first [] xs ys = ys
own_first (s ∷ ss) xs ys = with_log (own_first ss xs ys) s (at_log xs s)

-- an owner knows its log whole
abbrev pub pooled : View → View → List (List Entry)
pooled v w = own_first v.owns v.seen (own_first w.owns w.seen (longer_each v.seen w.seen))

-- a running ticket counts for the log of who takes it
abbrev pub for_log : ℕ → List ℕ → List (ℕ × ℕ)
for_log s runs = map (λ (n : ℕ). (s, n)) runs

abbrev pub merged : View → View → View
merged v w = record v {
  budget = v.budget + w.budget;
  sessions = v.sessions ++ w.sessions;
  own = v.own ++ w.own;
  made = v.made ++ w.made;
  known = v.known ++ w.known;
  counted = v.counted ++ (w.counted ++ for_log (head_or 0 v.owns) w.runs);
  owns = v.owns ++ w.owns;
  seen = pooled v w;
  left = v.seen;
  right = w.seen;
  note = note.Nothing;
}

abbrev pub learned : View → View
learned v = record v { left = []; right = []; note = note.Nothing }
