use Rattle.std.proofs.Common.{◌≡◌, refl, rules}
use Rattle.std.proofs.lemmas.Fn.{answers_by}
use Rattle.df_colls.specs.Roomy.{order}
use Rattle.df_colls.proofs.PlaceLaws.{placed}
use Rattle.df_colls.proofs.SearchLaws.{searched}
use Rattle.df_colls.proofs.entries.place.Goals as goal

pub returns-clause-place : goal.returns-clause-place
returns-clause-place g c =
    let key = c.args.key.now in
    searched key c.args.items.now.items c.binary_search_by.result c.requires c.deref.result.now c.deref.ensures.value c.binary_search_by.ensures.bound
    (c.binary_search_by.ensures.position (λ y. order y.0 key) (answers_by _ _ (λ f. f.0.now.now ≡ key) (λ f a r f' called same. search rules) _ refl))

pub returns-clause-entry : goal.returns-clause-entry
returns-clause-entry g c =
    let key = c.args.key.now in
    placed key c.args.items.now.items c.binary_search_by.result c.requires
    (searched key c.args.items.now.items c.binary_search_by.result c.requires c.deref.result.now c.deref.ensures.value c.binary_search_by.ensures.bound
    (c.binary_search_by.ensures.position (λ y. order y.0 key) (answers_by _ _ (λ f. f.0.now.now ≡ key) (λ f a r f' called same. search rules) _ refl)))
