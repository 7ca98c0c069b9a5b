-- A command of one key, from its row to the keyspace.
use Rattle.std.proofs.Common.{◌≡◌, Bool, true, false, cond, refl, sym, ap, subst, ◌∙◌}
use Rattle.std.specs.Prelude.{Option, Some, None}
use Rattle.df_model.specs.Values.{Bytes}
use Rattle.df_model.specs.Values as plain
use Rattle.df_model.specs.Words.{same}
use Rattle.df_model.specs.Keyspace.{Keyspace, held, with_held}
use Rattle.df_model.specs.Access.{does, on_key}
use Rattle.df_model.specs.Outcomes.{KeyRow, outcome, settled}
use Rattle.df_model.specs.Replies.{encoding_of}
use Rattle.df_model.proofs.LocalityLaws.{tied, held_with, reads_one, writes_one}
use Rattle.df_model.proofs.WholeLaws.{same_map_by, tied_bytes}
use Rattle.df_values.specs.Seen.{seen}
use Rattle.df_values.specs.Edits.{applied, Fits}
use Rattle.df_values.specs.Prepares.{Makes}
use Rattle.df_values.specs.declared.value.Value.{Value}
use Rattle.df_values.specs.declared.change.Change.{Change}
use Rattle.df_values.specs.declared.change.Change.TheVariants as changes
use Rattle.df_table.specs.Fates.{Ran, RanAt, RanWhere}
use Rattle.df_table.specs.Responses.{Gives}
use Rattle.df_table.specs.declared.one.Fate.{Fate}
use Rattle.df_table.specs.declared.one.Fate.TheVariants.{Missing, Stays, Goes}

-- ---- the row of a command on the keyspace

same_there : (K : Keyspace) (k q : Bytes) (w : Option plain.Value) (b : Bool) → tied q k ≡ b → held K k ≡ w → cond b w (held K q) ≡ held K q
same_there K k q w true t e = sym e ∙ ap (held K) (sym (tied_bytes q k t))
same_there K k q w false t e = refl

-- what a key holds may be put back
pub put_back : (K : Keyspace) (k : Bytes) (w : Option plain.Value) → held K k ≡ w → with_held K k w ≡ K
put_back K k w e = same_map_by _ _ (λ q. held_with K k w q ∙ same_there K k q w (tied q k) refl e)

-- whether it only looks or may change, a command of one key gives what its row gives
pub one_means : (key : Bytes) (row : KeyRow) (K : Keyspace) → does (on_key key row) K ≡ ((outcome row (held K key)).0, with_held K key (settled (outcome row (held K key)).1 (held K key)))
one_means key (KeyRow.Looks row) K = reads_one key row K ∙ ap (λ k. (row (held K key), k)) (sym (put_back K key (held K key) refl))
one_means key (KeyRow.Changes row) K = writes_one key row K

pub one_gives : (key : Bytes) (row : KeyRow) (K after : Keyspace) (bytes : Bytes) → after ≡ with_held K key (settled (outcome row (held K key)).1 (held K key)) → bytes ≡ encoding_of (outcome row (held K key)).0
    → Gives (does (on_key key row) K) after bytes
one_gives key row K after bytes left added = subst (λ m. Gives m after bytes) (sym (one_means key row K)) (record { leaves = left; says = added })

-- ---- where the key holds something

ran_at : (fate : Fate) (row : KeyRow) (key : Bytes) (K after : Keyspace) (before now : plain.Value) (bytes : Bytes) → held K key ≡ Some before → after ≡ with_held K key (Some now)
    → Ran fate (outcome row (Some before)) before now bytes → RanAt fate row key K after bytes
ran_at Missing row key K after before now bytes h left ran = absurd ran.left
ran_at Stays row key K after before now bytes h left ran = record {
  left = left ∙ ap (with_held K key) (sym ran.left) ∙ ap (λ v. with_held K key (settled (outcome row v).1 v)) (sym h);
  says = ran.says ∙ ap (λ v. encoding_of (outcome row v).0) (sym h);
}
ran_at Goes row key K after before now bytes h left ran = record {
  left = (
    ap (λ v. settled (outcome row v).1 v) h ∙ ran.left.0,
    left ∙ ap (λ v. with_held K key (Some v)) ran.left.1 ∙ put_back K key (Some before) h,
  );
  says = ran.says ∙ ap (λ v. encoding_of (outcome row v).0) (sym h);
}

pub ran_where : (fate : Fate) (row left : KeyRow) (key : Bytes) (K after : Keyspace) (before now : plain.Value) (bytes : Bytes) → held K key ≡ Some before → after ≡ with_held K key (Some now)
    → Ran fate (outcome row (Some before)) before now bytes → RanWhere fate row left key K after bytes
ran_where Missing row left key K after before now bytes h put ran = absurd ran.left
ran_where Stays row left key K after before now bytes h put ran = ran_at Stays row key K after before now bytes h put ran
ran_where Goes row left key K after before now bytes h put ran = ran_at Goes row key K after before now bytes h put ran

pub stayed : (row : KeyRow) (key : Bytes) (K after : Keyspace) (bytes : Bytes) → RanAt Stays row key K after bytes → Gives (does (on_key key row) K) after bytes
stayed row key K after bytes ran = one_gives key row K after bytes ran.left ran.says

pub went : (row : KeyRow) (key : Bytes) (K middle after : Keyspace) (bytes : Bytes) → RanAt Goes row key K middle bytes → after ≡ with_held middle key None → Gives (does (on_key key row) K) after bytes
went row key K middle after bytes ran gone =
    one_gives key row K after bytes
    (gone ∙ ap (λ k. with_held k key None) ran.left.1 ∙ ap (with_held K key) (sym ran.left.0)) ran.says

-- ---- where it holds nothing

pub put_new : (row : KeyRow) (key : Bytes) (K middle after : Keyspace) (change : Change) (value : Value) (bytes : Bytes) → held K key ≡ None → middle ≡ K
    → Makes (outcome row None) None bytes change → change ≡ changes.Put value → after ≡ with_held middle key (Some (seen value)) → Gives (does (on_key key row) K) after bytes
put_new row key K middle after change value bytes none same prepares puts left =
    let puts_it : Some (seen value) ≡ settled (outcome row None).1 None =
    ap (λ c. applied c None) (sym puts) ∙ prepares.change in
    one_gives key row K after bytes
    (left ∙ ap (λ k. with_held k key (Some (seen value))) same ∙ ap (with_held K key) puts_it ∙ ap (λ v. with_held K key (settled (outcome row v).1 v)) (sym none))
    (prepares.reply ∙ ap (λ v. encoding_of (outcome row v).0) (sym none))

keeps_nothing : (change : Change) → ((v : Value) → change ≡ changes.Put v → ⊥) → Fits change None → applied change None ≡ None
keeps_nothing changes.Keep not fits = refl
keeps_nothing (changes.Put v) not fits = absurd (not v refl)
keeps_nothing changes.Delete not fits = refl
keeps_nothing (changes.Edit edit) not fits = absurd fits

-- nothing is put, so the key still holds nothing
pub kept_nothing : (row : KeyRow) (key : Bytes) (K : Keyspace) (change : Change) (bytes : Bytes) → held K key ≡ None
    → Makes (outcome row None) None bytes change → ((v : Value) → change ≡ changes.Put v → ⊥) → Gives (does (on_key key row) K) K bytes
kept_nothing row key K change bytes none prepares not =
    let nothing : settled (outcome row None).1 None ≡ None =
    sym prepares.change ∙ keeps_nothing change not prepares.fits in
    one_gives key row K K bytes
    (sym (ap (λ v. with_held K key (settled (outcome row v).1 v)) none ∙ put_back K key (settled (outcome row None).1 None) (none ∙ sym nothing)))
    (prepares.reply ∙ ap (λ v. encoding_of (outcome row v).0) (sym none))
