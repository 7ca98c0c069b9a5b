use Rattle.df_model.proofs.LocalityLaws.{same_reply, same_left, others, within}
use Rattle.df_model.proofs.laws.meaning_is_local.Goals as goal

pub returns : goal.returns
returns c = λ a. record {
  same_reply = same_reply a;
  same_left = same_left a;
  others_stay = others a;
  writes_named = within a;
}
