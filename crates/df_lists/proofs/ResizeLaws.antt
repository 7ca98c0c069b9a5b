-- From an edit of a list, and how long the list is before it and after it, to what a prepared command promises.
use Rattle.std.proofs.Common.{◌≡◌, ℕ, ◌<◌, if◌then◌else◌, List, [], ◌∷◌, length, refl, sym, ap, ◌∙◌, subst, inl, inr, arith}
use Rattle.std.specs.Prelude.{Option, Some, None, nat_eq}
use Rattle.std.proofs.lemmas.Bool.Decides.{eqb_tells}
use Rattle.df_model.specs.Values.{Bytes}
use Rattle.df_model.specs.Values as plain
use Rattle.df_model.specs.Spared.{Spared}
use Rattle.df_model.specs.Outcomes.{Outcome, settled}
use Rattle.df_model.specs.Outcomes as outcomes
use Rattle.df_model.specs.Meaning.Lists.{stored}
use Rattle.df_model.specs.Replies.{encoding_of}
use Rattle.df_model.specs.declared.reply.Reply.{Reply}
use Rattle.df_values.specs.declared.value.Value.{Value}
use Rattle.df_values.specs.declared.value.Value.TheVariants as values
use Rattle.df_values.specs.declared.edit.Edit.{Edit}
use Rattle.df_values.specs.declared.change.Change.{Change}
use Rattle.df_values.specs.declared.change.Change.TheVariants as changes
use Rattle.df_values.specs.Edits.{applied, edited, Fits, Alters, IsPreparedOn}
use Rattle.df_values.specs.Prepares.{Makes}
use Rattle.df_values.specs.Seen.{seen_held}
use Rattle.df_lists.specs.Resized.{resized}

pub stored_put : (ys : List Bytes) → 0 < length ys → stored ys ≡ outcomes.Change.Put (plain.Value.Elements ys)
stored_put [] some = absurd (omega arith)
stored_put (y ∷ ys) some = refl

pub stored_some : (ys : List Bytes) (held : Option plain.Value) → 0 < length ys → settled (stored ys) held ≡ Some (plain.Value.Elements ys)
stored_some ys held some = ap (λ change. settled change held) (stored_put ys some)

pub stored_none : (ys : List Bytes) (held : Option plain.Value) → length ys ≡ 0 → settled (stored ys) held ≡ None
stored_none [] held none = refl
stored_none (y ∷ ys) held none = absurd (omega arith)

-- the change that is made is the row's
pub record Suits (new : outcomes.Change) (held : Option Value) (change : Change) : Type 0 where
  pub is : applied change (seen_held held) ≡ settled new (seen_held held)
  pub fits : Fits change held
  pub alters : Alters change (seen_held held)

pub gives : (row : Outcome) (reply : Reply) (new : outcomes.Change) (held : Option Value) (bytes : Bytes) (made change : Change)
    → row ≡ (reply, new) → bytes ≡ encoding_of reply → made ≡ change → Suits new held change → Makes row held bytes made
gives row reply new held bytes made change is replies makes suits =
    subst (λ (r : Outcome). Makes r held bytes made) (sym is) (record {
      reply = replies;
      change = ap (λ made. applied made (seen_held held)) makes ∙ suits.is;
      fits = subst (λ (made : Change). Fits made held) (sym makes) suits.fits;
      alters = subst (λ (made : Change). Alters made (seen_held held)) (sym makes) suits.alters;
    })

-- a reply alone
pub keeps : (row : Outcome) (reply : Reply) (held : Option Value) (bytes : Bytes) (made : Change)
    → row ≡ (reply, outcomes.Change.Keep) → bytes ≡ encoding_of reply → made ≡ changes.Keep → Makes row held bytes made
keeps row reply held bytes made is replies makes =
    gives row reply outcomes.Change.Keep held bytes made changes.Keep is replies makes (record { is = refl; fits = tt; alters = tt })

-- an edit that gives another list, which isn't empty
pub suits_edit : (list : Spared Bytes) (ys : List Bytes) (edit : Edit) → 0 < length ys → (ys ≡ list.items → ⊥)
    → edited edit (plain.Value.Elements list.items) ≡ plain.Value.Elements ys → IsPreparedOn edit (values.List list)
    → Suits (stored ys) (Some (values.List list)) (changes.Edit edit)
suits_edit list ys edit some other does fits = record {
  is = ap Some does ∙ sym (stored_some ys _ some);
  fits = fits;
  alters = λ same. other (let both : plain.Value.Elements ys ≡ plain.Value.Elements list.items = cc in cc);
}

suits_delete : (list : Spared Bytes) (ys : List Bytes) → length ys ≡ 0 → Suits (stored ys) (Some (values.List list)) changes.Delete
suits_delete list ys none = record {
  is = sym (stored_none ys _ none);
  fits = tt;
  alters = λ same. cc;
}

pub suits_keep : (list : Spared Bytes) (ys : List Bytes) → 0 < length ys → ys ≡ list.items → Suits (stored ys) (Some (values.List list)) changes.Keep
suits_keep list ys some same = record {
  is = ap (λ items. Some (plain.Value.Elements items)) (sym same) ∙ sym (stored_some ys _ some);
  fits = tt;
  alters = tt;
}

pub suits_resized : (list : Spared Bytes) (ys : List Bytes) (edit : Edit) (before after : ℕ) → before ≡ length list.items → after ≡ length ys
    → edited edit (plain.Value.Elements list.items) ≡ plain.Value.Elements ys → IsPreparedOn edit (values.List list)
    → (length ys ≡ length list.items → ys ≡ list.items)
    → Suits (stored ys) (Some (values.List list)) (resized edit before after)
suits_resized list ys edit before after was is does fits same =
    elim (eqb_tells after 0) [
      | inl none ↦ subst (λ b. Suits (stored ys) (Some (values.List list)) (if b then changes.Delete else (if nat_eq after before then changes.Keep else changes.Edit edit))) (sym none.0) (suits_delete list ys (omega (arith, none.1, is)))
      | inr some ↦ subst (λ b. Suits (stored ys) (Some (values.List list)) (if b then changes.Delete else (if nat_eq after before then changes.Keep else changes.Edit edit))) (sym some.0) (moved some.1)
    ]
  where
    moved : (after ≡ 0 → ⊥) → Suits (stored ys) (Some (values.List list)) (if nat_eq after before then changes.Keep else changes.Edit edit)
    moved some =
        let more : 0 < length ys = omega (arith, some, is) in
        elim (eqb_tells after before) [
          | inl alike ↦ subst (λ b. Suits (stored ys) (Some (values.List list)) (if b then changes.Keep else changes.Edit edit)) (sym alike.0) (suits_keep list ys more (same (sym is ∙ alike.1 ∙ was)))
          | inr other ↦ subst (λ b. Suits (stored ys) (Some (values.List list)) (if b then changes.Keep else changes.Edit edit)) (sym other.0) (suits_edit list ys edit more (λ e. other.1 (is ∙ ap length e ∙ sym was)) does fits)
        ]

pub resized_gives : (row : Outcome) (reply : Reply) (list : Spared Bytes) (ys : List Bytes) (edit : Edit) (before after : ℕ) (bytes : Bytes) (made : Change)
    → row ≡ (reply, stored ys) → bytes ≡ encoding_of reply → made ≡ resized edit before after
    → before ≡ length list.items → after ≡ length ys
    → edited edit (plain.Value.Elements list.items) ≡ plain.Value.Elements ys → IsPreparedOn edit (values.List list)
    → (length ys ≡ length list.items → ys ≡ list.items)
    → Makes row (Some (values.List list)) bytes made
resized_gives row reply list ys edit before after bytes made row_is replies makes was is does fits same =
    gives row reply (stored ys) (Some (values.List list)) bytes made (resized edit before after) row_is replies makes (suits_resized list ys edit before after was is does fits same)
