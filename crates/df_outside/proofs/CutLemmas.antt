-- Pieces of bytes that are taken from the front.
use Rattle.std.proofs.Common.{◌≡◌, ◌≢◌, ℕ, ◌+◌, ◌<◌, min, List, [], ◌∷◌, ◌++◌, length, take, drop, refl, sym, ◌∙◌, ap, append_assoc, add-one, arith, get_or, drop-cons}
use Rattle.std.specs.List.{concat}
use Rattle.std.proofs.lemmas.List.{take-append-drop, append-nil, drop-drop, take_min, drop_min}
use Rattle.std.proofs.lemmas.List.Folds.{concat-append}
use Rattle.std.proofs.Math.Seq.{take-suc, take-add}
use Rattle.df_outside.specs.Cuts.{Cut, piece_then, filled, next_bytes, left_after, cut_after, begun, cut_at}

-- an empty piece has no bytes
pub concat-piece_then : (piece : List ℕ) (more : List (List ℕ)) → concat (piece_then piece more) ≡ piece ++ concat more
concat-piece_then [] more = refl
concat-piece_then (byte ∷ bytes) more = refl

-- to leave out the empty pieces leaves the bytes
pub concat-filled : (pieces : List (List ℕ)) → concat (filled pieces) ≡ concat pieces
concat-filled [] = refl
concat-filled (piece ∷ more) = rw (concat-piece_then piece (filled more), concat-filled more) refl

-- what a read takes leaves the front of what was left
pub cut_after-whole : (room : ℕ) (cut : Cut) → (cut_after room cut).taken ++ concat (cut_after room cut).left ≡ cut.taken ++ concat cut.left
cut_after-whole room cut =
    elim cut.left as (λ (left : List (List ℕ)). (cut.taken ++ next_bytes room left) ++ concat (left_after room left) ≡ cut.taken ++ concat left) [
      | [] ↦ append-nil (cut.taken ++ [])
      | piece ∷ more ↦ rw (concat-piece_then (drop room piece) more, append_assoc cut.taken (take room piece) (drop room piece ++ concat more), ← append_assoc (take room piece) (drop room piece) (concat more), take-append-drop room piece) refl
    ]

-- the piece of this number
pub record IsAt (pieces : List (List ℕ)) (number : ℕ) (piece : List ℕ) : Type 0 where
  pub within : number < length pieces
  pub is : get_or pieces number [] ≡ piece

pub at_of : (shown pieces : List (List ℕ)) (number : ℕ) (piece : List ℕ) → shown ≡ pieces → number < length shown → piece ≡ get_or shown number [] → IsAt pieces number piece
at_of shown pieces number piece same within is = record { within = rw (sym same) within; is = rw (sym same) (sym is) }

pub drop_at : {pieces : List (List ℕ)} {number : ℕ} {piece : List ℕ} → IsAt pieces number piece → drop number pieces ≡ piece ∷ drop (number + 1) pieces
drop_at {pieces} {number} {piece} here =
    let within : number < length pieces = here.within in
    rw (add-one, drop-cons pieces number [], here.is) refl

pub concat-take_at : {pieces : List (List ℕ)} {number : ℕ} {piece : List ℕ} → IsAt pieces number piece → concat (take (number + 1) pieces) ≡ concat (take number pieces) ++ piece
concat-take_at {pieces} {number} {piece} here =
    let within : number < length pieces = here.within in
    rw (add-one, take-suc pieces number [], concat-append (take number pieces) (get_or pieces number [] ∷ []), here.is, append-nil piece) refl

begun-zero : (pieces : List (List ℕ)) → begun 0 pieces ≡ pieces
begun-zero [] = refl
begun-zero (piece ∷ more) = refl

-- once a piece was taken whole, the next one comes
pub cut_at-passes : {pieces : List (List ℕ)} {number : ℕ} {piece : List ℕ} (at : ℕ) → IsAt pieces number piece → drop at piece ≡ [] → cut_at (number + 1) 0 pieces ≡ cut_at number at pieces
cut_at-passes {pieces} {number} {piece} at here none =
    let all : take at piece ≡ piece = sym (append-nil (take at piece)) ∙ ap (λ (rest : List ℕ). take at piece ++ rest) (sym none) ∙ take-append-drop at piece in
    rw (concat-take_at here, begun-zero (drop (number + 1) pieces), append-nil (concat (take number pieces) ++ piece), drop_at here, none, all) refl

-- what is left of a piece comes next, unless it is nothing
next-piece_then : (room : ℕ) (rest : List ℕ) (more : List (List ℕ)) → rest ≢ [] → next_bytes room (piece_then rest more) ≡ take room rest
next-piece_then room [] more some = absurd (some refl)
next-piece_then room (byte ∷ bytes) more some = refl

after-piece_then : (room : ℕ) (taken rest : List ℕ) (more : List (List ℕ)) → rest ≢ [] →
    let cut : Cut = record { taken = taken; left = piece_then rest more } in
    let then : Cut = record { taken = taken ++ take room rest; left = piece_then (drop room rest) more } in
    then ≡ cut_after room cut
after-piece_then room taken [] more some = absurd (some refl)
after-piece_then room taken (byte ∷ bytes) more some = refl

cut_at-next : {pieces : List (List ℕ)} {number : ℕ} {piece : List ℕ} (at room : ℕ) → IsAt pieces number piece → drop at piece ≢ [] → next_bytes room (cut_at number at pieces).left ≡ take room (drop at piece)
cut_at-next {pieces} {number} {piece} at room here some =
    rw (drop_at here) (next-piece_then room (drop at piece) (filled (drop (number + 1) pieces)) some)

-- a read within a piece
pub cut_at-takes : {pieces : List (List ℕ)} {number : ℕ} {piece : List ℕ} (at room count : ℕ) → IsAt pieces number piece → drop at piece ≢ [] → count ≡ min (length (drop at piece)) room → cut_at number (at + count) pieces ≡ cut_after room (cut_at number at pieces)
cut_at-takes {pieces} {number} {piece} at room count here some is =
    let rest : List ℕ = drop at piece in
    let least : count ≡ min room (length rest) = omega arith in
    let taken : take (at + count) piece ≡ take at piece ++ take room rest =
    take-add at count piece ∙ ap (λ (bytes : List ℕ). take at piece ++ bytes) (ap (λ (n : ℕ). take n rest) least ∙ take_min room rest) in
    let left : drop (at + count) piece ≡ drop room rest = sym (drop-drop count at piece) ∙ ap (λ (n : ℕ). drop n rest) least ∙ drop_min room rest in
    let before : List ℕ = concat (take number pieces) in
    rw (drop_at here, taken, left, ← append_assoc before (take at piece) (take room rest)) (after-piece_then room (before ++ take at piece) rest (filled (drop (number + 1) pieces)) some)
