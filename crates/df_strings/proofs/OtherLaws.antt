-- Commands on strings where the key holds another kind of value.
use Rattle.std.proofs.Common.{◌≡◌, Option, Some, refl}
use Rattle.df_model.specs.Values.{Bytes}
use Rattle.df_model.specs.Values as plain
use Rattle.df_model.specs.Outcomes.{Outcome, refused}
use Rattle.df_model.specs.Meaning.Strings.{looks, changes}
use Rattle.df_model.specs.declared.reply.ErrorText.TheVariants.{WrongKind}
use Rattle.df_model.specs.declared.reply.Reply.{Reply}
use Rattle.df_model.specs.declared.reply.Reply.TheVariants.{Error}
use Rattle.df_strings.specs.Strings.{IsOther}

pub looks_other : (row : Option Bytes → Reply) (value : plain.Value) → IsOther value → looks row (Some value) ≡ Error WrongKind
looks_other row (plain.Value.Str bytes) other = absurd other
looks_other row (plain.Value.Elements elements) other = refl
looks_other row (plain.Value.Hash fields) other = refl
looks_other row (plain.Value.Set members) other = refl

pub changes_other : (row : Option Bytes → Outcome) (value : plain.Value) → IsOther value → changes row (Some value) ≡ refused WrongKind
changes_other row (plain.Value.Str bytes) other = absurd other
changes_other row (plain.Value.Elements elements) other = refl
changes_other row (plain.Value.Hash fields) other = refl
changes_other row (plain.Value.Set members) other = refl
