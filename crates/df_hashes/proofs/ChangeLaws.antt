-- Changes of a hash.
use Rattle.std.proofs.Common.{◌≡◌, ◌≢◌, ℕ, ◌+◌, ◌≤◌, Bool, true, false, cond, List, [], ◌∷◌, length, sym, ap, ◌∙◌, arith}
use Rattle.std.proofs.lemmas.Bool.Decides.{nat_tests}
use Rattle.std.specs.Prelude.{Some, ◌==◌, if◌then◌else◌}
use Rattle.std.specs.Cmp.Lexicographic.{nat_list_cmp_total}
use Rattle.std.specs.FinMap as map
use Rattle.df_model.specs.Spared.{Spared}
use Rattle.df_model.specs.Values.{Bytes, Fields}
use Rattle.df_model.specs.Values as plain
use Rattle.df_model.specs.Meaning.Hashes.{with_fields, stored}
use Rattle.df_model.specs.Outcomes as outcomes
use Rattle.df_colls.specs.Roomy.{RoomyFields}
use Rattle.df_values.specs.declared.value.Value.TheVariants as values
use Rattle.df_values.specs.declared.edit.Edit.TheVariants.{PutFields}
use Rattle.df_values.specs.declared.change.Change.TheVariants as changes
use Rattle.df_hashes.specs.Settles.{Settles}

grown : (ps : List (Bytes × Bytes)) (m : Fields) → map.len m ≤ map.len (with_fields ps m)
grown [] m = omega arith
grown (p ∷ ps) m = omega (arith, one (map.contains_key m p.0), map.len-insert nat_list_cmp_total m p.0 p.1, grown ps (map.insert m p.0 p.1))
  where
    one : (b : Bool) → map.len m ≤ cond b (map.len m) (map.len m + 1)
    one true = omega arith
    one false = omega arith

both_empty : (m n : Fields) → map.len m ≤ map.len n → map.len n ≡ 0 → n ≡ m
both_empty m n le z = map.empty_of_len n z ∙ sym (map.empty_of_len m (omega arith))

nonzero : (k : ℕ) → k ≢ 0 → (k == 0) ≡ false
nonzero k some = grind (arith, nat_tests)

-- what is stored of fields that aren't none
pub stored_some : (n : Fields) → map.len n ≢ 0 → stored n ≡ outcomes.Change.Put (plain.Value.Hash n)
stored_some n some = ap (λ (b : Bool). if b then outcomes.Change.Delete else outcomes.Change.Put (plain.Value.Hash n)) (nonzero (map.len n) some)

pub put_makes : (pairs : Spared (Bytes × Bytes)) (hash : RoomyFields) (m : Fields) → hash.fields ≡ m → length pairs.items ≤ hash.spare → with_fields pairs.items m ≢ m
    → Settles (stored (with_fields pairs.items m)) (Some (values.Hash hash)) (changes.Edit (PutFields pairs))
put_makes pairs hash m e room alters =
    let some : map.len (with_fields pairs.items m) ≢ 0 = λ z. alters (both_empty m (with_fields pairs.items m) (grown pairs.items m) z) in
    record {
      change = ap (λ x. Some (plain.Value.Hash (with_fields pairs.items x))) e ∙ ap (λ c. outcomes.settled c (Some (plain.Value.Hash hash.fields))) (sym (stored_some (with_fields pairs.items m) some));
      fits = room;
      alters = λ same. alters (sym (ap (with_fields pairs.items) e) ∙ hash_same same ∙ e);
    }
  where
    hash_same : {a b : Fields} → Some (plain.Value.Hash a) ≡ Some (plain.Value.Hash b) → a ≡ b
    hash_same e = cc
