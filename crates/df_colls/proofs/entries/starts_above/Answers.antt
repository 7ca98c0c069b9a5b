use Rattle.std.proofs.Common.{◌≡◌, List, [], ◌∷◌, true, false, inl, inr, refl, sym, ap, subst, ◌∙◌}
use Rattle.std.specs.Prelude.{Some, None, slice_get}
use Rattle.std.specs.declared.cmp.Ordering.TheVariants.{Less, Equal, Greater}
use Rattle.df_model.specs.Values.{Bytes}
use Rattle.df_colls.specs.Roomy.{order}
use Rattle.df_colls.specs.Places.{Starts}
use Rattle.df_colls.proofs.OrderLaws.{flip}
use Rattle.df_colls.proofs.entries.starts_above.Goals as goal

module _ {X : Type 0} where
  first_is : (e x : Bytes × X) → Some e ≡ Some x → e ≡ x
  first_is e x h = cc

  starts_less : (k : Bytes) (es : List (Bytes × X)) (e : Bytes × X) → Some e ≡ slice_get es 0 → order e.0 k ≡ Less → Starts k es false
  starts_less k [] e h r = refl
  starts_less k (x ∷ es) e h r = inr (flip x.0 k Less (subst (λ y. order y.0 k ≡ Less) (first_is e x h) r))

  starts_equal : (k : Bytes) (es : List (Bytes × X)) (e : Bytes × X) → Some e ≡ slice_get es 0 → order e.0 k ≡ Equal → Starts k es false
  starts_equal k [] e h r = refl
  starts_equal k (x ∷ es) e h r = inl (flip x.0 k Equal (subst (λ y. order y.0 k ≡ Equal) (first_is e x h) r))

  none_first : (e : Bytes × X) → Some e ≡ None → true ≡ false
  none_first e h = cc

  starts_greater : (k : Bytes) (es : List (Bytes × X)) (e : Bytes × X) → Some e ≡ slice_get es 0 → order e.0 k ≡ Greater → Starts k es true
  starts_greater k [] e h r = none_first e h
  starts_greater k (x ∷ es) e h r = flip x.0 k Greater (subst (λ y. order y.0 k ≡ Greater) (first_is e x h) r)

pub returns-in-Less : goal.returns-in-Less
returns-in-Less g c =
    let e = c.in-Some.entry.now in
    starts_less c.args.key.now c.args.chunk.now.items e (c.in-Some.ensures.value ∙ ap (λ l. slice_get l 0) c.deref.ensures.value) (ap (λ b. order b c.args.key.now) (sym c.as_slice.ensures) ∙ sym c.cmp.ensures ∙ c.in-Less.is)

pub returns-in-Equal : goal.returns-in-Equal
returns-in-Equal g c =
    let e = c.in-Some.entry.now in
    starts_equal c.args.key.now c.args.chunk.now.items e (c.in-Some.ensures.value ∙ ap (λ l. slice_get l 0) c.deref.ensures.value) (ap (λ b. order b c.args.key.now) (sym c.as_slice.ensures) ∙ sym c.cmp.ensures ∙ c.in-Equal.is)

pub returns-in-Greater : goal.returns-in-Greater
returns-in-Greater g c =
    let e = c.in-Some.entry.now in
    starts_greater c.args.key.now c.args.chunk.now.items e (c.in-Some.ensures.value ∙ ap (λ l. slice_get l 0) c.deref.ensures.value) (ap (λ b. order b c.args.key.now) (sym c.as_slice.ensures) ∙ sym c.cmp.ensures ∙ c.in-Greater.is)
