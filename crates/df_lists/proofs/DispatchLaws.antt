-- A key that holds no list refuses each command on lists.
use Rattle.std.proofs.Common.{◌≡◌, List, refl, ap}
use Rattle.std.specs.Prelude.{Some}
use Rattle.df_model.specs.Values.{Bytes}
use Rattle.df_model.specs.Values as plain
use Rattle.df_model.specs.Spared.{Spared}
use Rattle.df_model.specs.Families.{family_of}
use Rattle.df_model.specs.Meaning.{one}
use Rattle.df_model.specs.Meaning.Lists as rows
use Rattle.df_model.specs.Outcomes.{Outcome, outcome, refused}
use Rattle.df_model.specs.Replies.{encoding_of}
use Rattle.df_model.specs.declared.command.OneOp.{OneOp}
use Rattle.df_model.specs.declared.command.OneOp.TheVariants as ones
use Rattle.df_model.specs.declared.reply.ErrorText.TheVariants.{WrongKind}
use Rattle.df_model.specs.declared.reply.Reply.{Reply}
use Rattle.df_model.specs.declared.reply.Reply.TheVariants.{Error}
use Rattle.df_values.specs.declared.value.Value.{Value}
use Rattle.df_values.specs.declared.value.Value.TheVariants as values
use Rattle.df_values.specs.declared.change.Change.TheVariants as changes
use Rattle.df_values.specs.Prepares.{Makes}
use Rattle.df_values.specs.Seen.{seen}
use Rattle.df_lists.specs.Serves.{Serves}
use Rattle.df_lists.proofs.ResizeLaws.{keeps}

abbrev IsNoList : plain.Value → Type 0
IsNoList value = (xs : List Bytes) → value ≡ plain.Value.Elements xs → ⊥

changes_wrong : (row : List Bytes → Outcome) (value : plain.Value) → IsNoList value → rows.changes row (Some value) ≡ refused WrongKind
changes_wrong row (plain.Value.Str bytes) other = refl
changes_wrong row (plain.Value.Elements xs) other = absurd (other xs refl)
changes_wrong row (plain.Value.Hash fields) other = refl
changes_wrong row (plain.Value.Set members) other = refl

looks_wrong : (row : List Bytes → Reply) (value : plain.Value) → IsNoList value → rows.looks row (Some value) ≡ Error WrongKind
looks_wrong row (plain.Value.Str bytes) other = refl
looks_wrong row (plain.Value.Elements xs) other = absurd (other xs refl)
looks_wrong row (plain.Value.Hash fields) other = refl
looks_wrong row (plain.Value.Set members) other = refl

wrong_kind : (op : OneOp) (value : plain.Value) → Serves (family_of op) → IsNoList value → outcome (one op) (Some value) ≡ refused WrongKind
wrong_kind (ones.Lpush words) value serves other = changes_wrong (rows.lpush words.items) value other
wrong_kind (ones.Rpush words) value serves other = changes_wrong (rows.rpush words.items) value other
wrong_kind (ones.Lpushx words) value serves other = changes_wrong (rows.lpushx words.items) value other
wrong_kind (ones.Rpushx words) value serves other = changes_wrong (rows.rpushx words.items) value other
wrong_kind (ones.Lpop n) value serves other = changes_wrong (rows.lpop n) value other
wrong_kind (ones.Rpop n) value serves other = changes_wrong (rows.rpop n) value other
wrong_kind ones.Llen value serves other = ap (λ reply. (reply, (refused WrongKind).1)) (looks_wrong rows.llen value other)
wrong_kind (ones.Lrange from to) value serves other = ap (λ reply. (reply, (refused WrongKind).1)) (looks_wrong (rows.lrange from to) value other)
wrong_kind (ones.Lindex i) value serves other = ap (λ reply. (reply, (refused WrongKind).1)) (looks_wrong (rows.lindex i) value other)
wrong_kind (ones.Lset i bytes) value serves other = changes_wrong (rows.lset i bytes) value other
wrong_kind (ones.Linsert beside pivot bytes) value serves other = changes_wrong (rows.linsert beside pivot bytes) value other
wrong_kind (ones.Lrem n bytes) value serves other = changes_wrong (rows.lrem n bytes) value other
wrong_kind (ones.Ltrim from to) value serves other = changes_wrong (rows.ltrim from to) value other
wrong_kind op value serves other = absurd serves

no_list : (value : Value) → ((list : Spared Bytes) → value ≡ values.List list → ⊥) → IsNoList (seen value)
no_list (values.Str text) other xs is = cc
no_list (values.List list) other xs is = other list refl
no_list (values.Hash hash) other xs is = cc
no_list (values.Set set) other xs is = cc

pub refuses : (op : OneOp) (value : Value) (bytes : Bytes) → Serves (family_of op) → ((list : Spared Bytes) → value ≡ values.List list → ⊥)
    → bytes ≡ encoding_of (Error WrongKind) → Makes (outcome (one op) (Some (seen value))) (Some value) bytes changes.Keep
refuses op value bytes serves other replies =
    keeps (outcome (one op) (Some (seen value))) (Error WrongKind) (Some value) bytes changes.Keep (wrong_kind op (seen value) serves (no_list value other)) replies refl
