-- A piece that is written in parts.
use Rattle.std.proofs.Common.{◌≡◌, ℕ, ◌-◌, ◌≤◌, [], ◌++◌, take, drop, length, refl, sym, ap, subst, ◌∙◌, arith, append_assoc, append-nil, take-append-drop}
use Rattle.std.specs.Io.KnownBytes.{Appends}
use Rattle.std.proofs.lemmas.Grind.{common_steps}
use Rattle.std.proofs.KnownBytes.{Appends-nil, Appends-trans}
use Rattle.df_model.specs.Values.{Bytes}
use Rattle.df_outside.specs.Streams.{Outflow}
use Rattle.df_print.specs.Writes.{WroteFront}

-- all of the piece but this rest was written
pub record WroteBut (piece rest : Bytes) (before now : Outflow) : Type 0 where
  pub wrote : Bytes
  pub front : piece ≡ wrote ++ rest
  pub written : Appends before.written now.written wrote
  pub faults : before.faults ≤ now.faults

pub wrote_none : (piece : Bytes) (flow : Outflow) → WroteBut piece piece flow flow
wrote_none piece flow = record { wrote = []; front = refl; written = Appends-nil flow.written; faults = omega arith }

pub wrote_more : (piece rest left : Bytes) (count : ℕ) (before middle now : Outflow) → WroteBut piece rest before middle → left ≡ drop count rest
    → Appends middle.written now.written (take count rest) → middle.faults ≤ now.faults → WroteBut piece left before now
wrote_more piece rest left count before middle now w left_is written faults = record {
  wrote = w.wrote ++ take count rest;
  front = w.front ∙ ap (λ x. w.wrote ++ x) (sym (take-append-drop count rest)) ∙ sym (append_assoc w.wrote (take count rest) (drop count rest)) ∙ ap (λ x. (w.wrote ++ take count rest) ++ x) (sym left_is);
  written = Appends-trans before.written middle.written now.written w.wrote (take count rest) w.written written;
  faults = omega (arith, w.faults);
}

pub wrote_whole : (piece rest : Bytes) (before now : Outflow) → WroteBut piece rest before now → rest ≡ [] → Appends before.written now.written piece × (before.faults ≤ now.faults)
wrote_whole piece rest before now w none =
    (subst (Appends before.written now.written) (sym (w.front ∙ ap (λ x. w.wrote ++ x) none ∙ append-nil w.wrote)) w.written, w.faults)

-- a write that wrote nothing ends it
pub wrote_front : (piece rest : Bytes) (before middle now : Outflow) → WroteBut piece rest before middle → Appends middle.written now.written [] → WroteFront piece before now
wrote_front piece rest before middle now w none = record {
  wrote = w.wrote;
  unsent = rest;
  front = w.front;
  written = subst (Appends before.written now.written) (append-nil w.wrote) (Appends-trans before.written middle.written now.written w.wrote [] w.written none);
}

-- what a slice up to its end leaves
pub whole_rest : (count : ℕ) (bytes : Bytes) → take (length bytes - count) (drop count bytes) ≡ drop count bytes
whole_rest count bytes = grind (arith, common_steps)
