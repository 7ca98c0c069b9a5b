-- The entries of a map as they lie, and a walk over them from run to run.
use Rattle.std.proofs.Common.{◌≡◌, ℕ, ◌+◌, ◌≤◌, List, [], ◌++◌, length, take, drop, refl, sym, ap, ◌∙◌, append_assoc, append-nil, arith}
use Rattle.std.specs.Prelude.{T}
use Rattle.std.specs.FinMap.{is_sorted}
use Rattle.std.specs.FinMap as map
use Rattle.std.proofs.lemmas.List.{length-append, length-drop, drop-drop, drop_at, drop_all, take-append-drop, take-take, drop-take, take_at}
use Rattle.df_colls.specs.declared.entries.Body.{Body}
use Rattle.df_colls.specs.Roomy.{Roomy, order}
use Rattle.df_colls.specs.Bodies.{entries_of, room_of}
use Rattle.df_colls.specs.Places.{made}
use Rattle.df_colls.specs.Runs.{IsFront}
use Rattle.df_colls.proofs.PlaceLaws.{made_entries, made_len}

module _ {X : Type 0} (b : Body X) (v : Roomy X) (s : T (is_sorted order (entries_of b))) (is : record { contents = made (entries_of b); spare = room_of b } ≡ v) where
  pub entries_are : map.entries v.contents ≡ entries_of b
  entries_are = sym (ap (λ r. map.entries r.contents) is) ∙ made_entries (entries_of b) s

  pub len_is : map.len v.contents ≡ length (entries_of b)
  len_is = sym (ap (λ r. map.len r.contents) is) ∙ made_len (entries_of b) s

module _ {A : Type 0} where
  pub front_all : (l run : List A) → run ≡ l → IsFront l run
  front_all l run e = ([], sym e ∙ sym (append-nil run))

  pub front_len : (l run : List A) (at : ℕ) → IsFront (drop at l) run → at ≤ length l → at + length run ≤ length l
  front_len l run at f le = omega (arith, le, ap length f.1, length-append run f.0, length-drop at l)

  pub rest_is : (l run : List A) (at : ℕ) → (f : IsFront (drop at l) run) → drop (at + length run) l ≡ f.0
  rest_is l run at f = sym (drop-drop (length run) at l) ∙ ap (drop (length run)) f.1 ∙ drop_at run f.0 (length run) refl

  -- one run more, and what is behind it
  pub run_step : (l run out new whole : List A) (at : ℕ) → IsFront (drop at l) run → new ≡ out ++ run → out ++ drop at l ≡ whole → new ++ drop (at + length run) l ≡ whole
  run_step l run out new whole at f e w =
      ap (λ xs. xs ++ drop (at + length run) l) e
      ∙ ap (λ xs. (out ++ run) ++ xs) (rest_is l run at f)
      ∙ append_assoc out run f.0
      ∙ ap (λ xs. out ++ xs) (sym f.1)
      ∙ w

  pub run_end : (l out whole : List A) (at : ℕ) → length l ≤ at → out ++ drop at l ≡ whole → out ≡ whole
  run_end l out whole at le w = sym (append-nil out) ∙ ap (λ xs. out ++ xs) (sym (drop_all at l le)) ∙ w

  pub run_taken : (l run : List A) (at : ℕ) → IsFront (drop at l) run → take (at + length run) l ≡ take at l ++ run
  run_taken l run at f =
      let n = length run in
      sym (take-append-drop at (take (at + n) l))
      ∙ ap (λ xs. xs ++ drop at (take (at + n) l)) (take-take at (at + n) l (omega arith))
      ∙ ap (λ xs. take at l ++ xs) (drop-take at n l ∙ ap (take n) f.1 ∙ take_at run f.0 n refl)
