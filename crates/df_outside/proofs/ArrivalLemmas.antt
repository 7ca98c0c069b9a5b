-- What arrives at a link, taken from the front.
use Rattle.std.proofs.Common.{◌≡◌, ◌≢◌, ℕ, ◌+◌, ◌<◌, min, List, [], ◌∷◌, ◌++◌, length, take, drop, refl, sym, ◌∙◌, ap, append_assoc, add-one, arith, get_or, drop-cons}
use Rattle.std.proofs.lemmas.List.{take-append-drop, append-nil, drop-drop, take_min, drop_min}
use Rattle.std.proofs.Math.Seq.{take-suc, take-add}
use Rattle.df_outside.specs.Arrivals.{Taken, bytes_then, coming, bytes_of, all_bytes, next_bytes, taken_after, begun, taken_at}
use Rattle.df_outside.specs.declared.arrivals.Arrival.{Arrival}
use Rattle.df_outside.specs.declared.arrivals.Arrival.TheVariants as arrival

-- the arrival of this number
pub record IsAt (arrivals : List Arrival) (number : ℕ) (first : Arrival) : Type 0 where
  pub within : number < length arrivals
  pub is : get_or arrivals number arrival.NotYet ≡ first

pub at_of : (shown arrivals : List Arrival) (number : ℕ) (first : Arrival) → shown ≡ arrivals → number < length shown → first ≡ get_or shown number arrival.NotYet → IsAt arrivals number first
at_of shown arrivals number first same within is = record { within = rw (sym same) within; is = rw (sym same) (sym is) }

pub drop_at : {arrivals : List Arrival} {number : ℕ} {first : Arrival} → IsAt arrivals number first → drop number arrivals ≡ first ∷ drop (number + 1) arrivals
drop_at {arrivals} {number} {first} here =
    let within : number < length arrivals = here.within in
    rw (add-one, drop-cons arrivals number arrival.NotYet, here.is) refl

all_bytes-append : (front back : List Arrival) → all_bytes (front ++ back) ≡ all_bytes front ++ all_bytes back
all_bytes-append [] back = refl
all_bytes-append (first ∷ more) back = rw (all_bytes-append more back, append_assoc (bytes_of first) (all_bytes more) (all_bytes back)) refl

pub all_bytes-take_at : {arrivals : List Arrival} {number : ℕ} {first : Arrival} → IsAt arrivals number first → all_bytes (take (number + 1) arrivals) ≡ all_bytes (take number arrivals) ++ bytes_of first
all_bytes-take_at {arrivals} {number} {first} here =
    let within : number < length arrivals = here.within in
    rw (add-one, take-suc arrivals number arrival.NotYet, all_bytes-append (take number arrivals) (get_or arrivals number arrival.NotYet ∷ []), here.is, append-nil (bytes_of first)) refl

begun-zero : (arrivals : List Arrival) → begun 0 arrivals ≡ arrivals
begun-zero [] = refl
begun-zero (arrival.Bytes piece ∷ more) = refl
begun-zero (arrival.NotYet ∷ more) = refl

-- once an arrival was taken whole, the next one comes
pub taken_at-passes : {arrivals : List Arrival} {number : ℕ} {piece : List ℕ} (at : ℕ) → IsAt arrivals number (arrival.Bytes piece) → drop at piece ≡ [] → taken_at (number + 1) 0 arrivals ≡ taken_at number at arrivals
taken_at-passes {arrivals} {number} {piece} at here none =
    let all : take at piece ≡ piece = sym (append-nil (take at piece)) ∙ ap (λ (rest : List ℕ). take at piece ++ rest) (sym none) ∙ take-append-drop at piece in
    rw (all_bytes-take_at here, begun-zero (drop (number + 1) arrivals), append-nil (all_bytes (take number arrivals) ++ piece), drop_at here, none, all) refl

-- an arrival that waits is passed over
pub taken_at-waits : {arrivals : List Arrival} {number : ℕ} → IsAt arrivals number arrival.NotYet → (taken_at number 0 arrivals).left ≡ arrival.NotYet ∷ (taken_at (number + 1) 0 arrivals).left
taken_at-waits {arrivals} {number} here = rw (begun-zero (drop (number + 1) arrivals), drop_at here) refl

pub taken_at-waits-taken : {arrivals : List Arrival} {number : ℕ} → IsAt arrivals number arrival.NotYet → (taken_at (number + 1) 0 arrivals).taken ≡ (taken_at number 0 arrivals).taken
taken_at-waits-taken {arrivals} {number} here = rw (all_bytes-take_at here) (append-nil (all_bytes (take number arrivals) ++ []))

-- what is left of an arrival comes next, unless it is nothing
next-bytes_then : (room : ℕ) (rest : List ℕ) (more : List Arrival) → rest ≢ [] → next_bytes room (bytes_then rest more) ≡ take room rest
next-bytes_then room [] more some = absurd (some refl)
next-bytes_then room (byte ∷ bytes) more some = refl

after-bytes_then : (room : ℕ) (taken rest : List ℕ) (more : List Arrival) → rest ≢ [] →
    let old : Taken = record { taken = taken; left = bytes_then rest more } in
    let then : Taken = record { taken = taken ++ take room rest; left = bytes_then (drop room rest) more } in
    then ≡ taken_after room old
after-bytes_then room taken [] more some = absurd (some refl)
after-bytes_then room taken (byte ∷ bytes) more some = refl

pub taken_at-next : {arrivals : List Arrival} {number : ℕ} {piece : List ℕ} (at room : ℕ) → IsAt arrivals number (arrival.Bytes piece) → drop at piece ≢ [] → next_bytes room (taken_at number at arrivals).left ≡ take room (drop at piece)
taken_at-next {arrivals} {number} {piece} at room here some =
    rw (drop_at here) (next-bytes_then room (drop at piece) (coming (drop (number + 1) arrivals)) some)

-- a read within an arrival
pub taken_at-takes : {arrivals : List Arrival} {number : ℕ} {piece : List ℕ} (at room count : ℕ) → IsAt arrivals number (arrival.Bytes piece) → drop at piece ≢ [] → count ≡ min (length (drop at piece)) room → taken_at number (at + count) arrivals ≡ taken_after room (taken_at number at arrivals)
taken_at-takes {arrivals} {number} {piece} at room count here some is =
    let rest : List ℕ = drop at piece in
    let least : count ≡ min room (length rest) = omega arith in
    let taken : take (at + count) piece ≡ take at piece ++ take room rest =
    take-add at count piece ∙ ap (λ (bytes : List ℕ). take at piece ++ bytes) (ap (λ (n : ℕ). take n rest) least ∙ take_min room rest) in
    let left : drop (at + count) piece ≡ drop room rest = sym (drop-drop count at piece) ∙ ap (λ (n : ℕ). drop n rest) least ∙ drop_min room rest in
    let before : List ℕ = all_bytes (take number arrivals) in
    rw (drop_at here, taken, left, ← append_assoc before (take at piece) (take room rest)) (after-bytes_then room (before ++ take at piece) rest (coming (drop (number + 1) arrivals)) some)
