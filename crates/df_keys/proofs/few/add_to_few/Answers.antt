use Rattle.std.proofs.Common.{[], ◌∷◌, set, refl, sym, ap, subst, ◌∙◌}
use Rattle.std.specs.List.{insert}
use Rattle.df_footprints.specs.Naming.{Adds}
use Rattle.df_keys.specs.Places.{IsPlace}
use Rattle.df_keys.specs.declared.few.Place.TheVariants as places
use Rattle.df_keys.proofs.FewLaws.{adds_free, adds_held, adds_kept}
use Rattle.df_keys.proofs.few.add_to_few.Goals as goal

pub returns-then-is_covered : goal.returns-then-is_covered
returns-then-is_covered c =
    let key = c.args.key.now in
    adds_kept c.args.list.now.items key c.args.mode c.in-Held.at c.in-Held.held
    (subst (λ es. IsPlace key es (places.Held c.in-Held.at c.in-Held.held)) c.as_slice.ensures c.in-Held.ensures) (c.if-is_covered.ensures.covered refl)

pub returns-in_ok-key-in-Held : goal.returns-in_ok-key-in-Held
returns-in_ok-key-in-Held c =
    let es = c.args.list.now.items in
    let key = c.args.key.now in
    let mode = c.args.mode in
    let at = c.in-Held.at in
    subst (Adds es ((key, mode) ∷ []))
    (sym (ap (λ l. l.items) c.replace-read.ensures.new ∙ ap (λ k. set es at (k, mode)) c.in_ok-key-in-Held.ensures))
    (adds_held es key mode at c.in-Held.held (subst (λ l. IsPlace key l (places.Held at c.in-Held.held)) c.as_slice.ensures c.in-Held.ensures)
    (c.if-is_covered.ensures.not_covered refl))

pub returns-in_ok-reserve-in-Free : goal.returns-in_ok-reserve-in-Free
returns-in_ok-reserve-in-Free c =
    let es = c.args.list.now.items in
    let key = c.args.key.now in
    let mode = c.args.mode in
    let at = c.in-Free.at in
    subst (Adds es ((key, mode) ∷ []))
    (sym (c.insert_at.ensures ∙ ap (λ l. insert l at (c.in_ok-key-in-Free.key, mode)) c.in_ok-reserve-in-Free.ensures.items ∙ ap (λ k. insert es at (k, mode)) c.in_ok-key-in-Free.ensures))
    (adds_free es key mode at (subst (λ l. IsPlace key l (places.Free at)) c.as_slice.ensures c.in-Free.ensures))
