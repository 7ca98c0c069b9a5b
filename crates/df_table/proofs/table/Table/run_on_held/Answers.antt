use Rattle.std.proofs.Common.{◌≡◌, refl, subst, sym, ap, ◌∙◌, rules}
use Rattle.std.specs.Prelude.{Option, Some, None, IsSome}
use Rattle.std.specs.Option.{option_map, option_copied_mut}
use Rattle.std.specs.Map.{lookup}
use Rattle.std.proofs.lemmas.Result.{IfOk-weaker, on_err_weaker}
use Rattle.df_model.specs.Words.{same}
use Rattle.df_model.specs.Keyspace.{held, with_held}
use Rattle.df_model.specs.Meaning.{one}
use Rattle.df_values.specs.Seen.{seen}
use Rattle.df_values.specs.declared.value.Value.{Value}
use Rattle.df_table.specs.Tables.{keyspace_of}
use Rattle.df_table.proofs.TableLaws.{held_entry, entry_changed}
use Rattle.df_table.proofs.OneLaws.{ran_where, put_back}
use Rattle.df_table.proofs.table.Table.run_on_held.Goals as goal

is_there : (v : Option Value) (x : Value) → Some x ≡ v → IsSome v
is_there v x e = subst IsSome e (search rules)

pub returns-clause-ok : goal.returns-clause-ok
returns-clause-ok c =
    let es = c.self.inside.map.entries in
    let key = c.args.key.now in
    let K = c.args.self.now.keys in
    let now = c.run_on.new.value in
    let after = (c.get_mut.follows.lender now).entries in
    let found : Some c.in-Some.value.now ≡ lookup (same key) es = sym (ap option_copied_mut c.in-Some.is) ∙ c.get_mut.ensures.value in
    let there : held K key ≡ Some (seen c.in-Some.value.now) = sym (ap (λ t. held t.keys key) c.self.view_is) ∙ held_entry seen es key ∙ sym (ap (option_map seen) found) in
    let left : keyspace_of seen after ≡ with_held K key (Some (seen now)) =
    entry_changed seen es after key (Some now) ((c.get_mut.follows.holds now).3 (is_there _ _ found)).0 ∙ ap (λ t. with_held t.keys key (Some (seen now))) c.self.view_is in
    IfOk-weaker c.run_on.result _ _
    (λ fate ran. ran_where fate (one c.args.op.now) (one c.run_on.new.op) key K (keyspace_of seen after) (seen c.in-Some.value.now) (seen now) c.run_on.new.reply there left ran)
    c.run_on.ensures.ok

pub returns-clause-keys : goal.returns-clause-keys
returns-clause-keys c =
    let es = c.self.inside.map.entries in
    let key = c.args.key.now in
    let K = c.args.self.now.keys in
    let now = c.run_on.new.value in
    let after = (c.get_mut.follows.lender now).entries in
    let found : Some c.in-Some.value.now ≡ lookup (same key) es = sym (ap option_copied_mut c.in-Some.is) ∙ c.get_mut.ensures.value in
    let there : held K key ≡ Some (seen c.in-Some.value.now) = sym (ap (λ t. held t.keys key) c.self.view_is) ∙ held_entry seen es key ∙ sym (ap (option_map seen) found) in
    let left : keyspace_of seen after ≡ with_held K key (Some (seen now)) =
    entry_changed seen es after key (Some now) ((c.get_mut.follows.holds now).3 (is_there _ _ found)).0 ∙ ap (λ t. with_held t.keys key (Some (seen now))) c.self.view_is in
    on_err_weaker c.run_on.result
    (λ (same_value : seen now ≡ seen c.in-Some.value.now). left ∙ ap (λ v. with_held K key (Some v)) same_value ∙ put_back K key (Some (seen c.in-Some.value.now)) there)
    c.run_on.ensures.value

pub returns-in_default-clause-ok : goal.returns-in_default-clause-ok
returns-in_default-clause-ok c =
    let es = c.self.inside.map.entries in
    let key = c.args.key.now in
    let none : lookup (same key) es ≡ None = sym c.get_mut.ensures.value ∙ ap option_copied_mut c.in_default.is in (
      sym (ap (λ t. held t.keys key) c.self.view_is) ∙ held_entry seen es key ∙ ap (option_map seen) none,
      ap (λ m. keyspace_of seen m.entries) c.get_mut.follows.holds-at-none ∙ ap (λ t. t.keys) c.self.view_is,
      refl,
    )
