use Rattle.std.proofs.Common.{◌++◌, ap, sym, ◌∙◌}
use Rattle.std.specs.List.{flat_map}
use Rattle.std.specs.FinMap as map
use Rattle.df_model.specs.Outcomes.{bulk_or_null}
use Rattle.df_model.specs.Replies.{encoding_of}
use Rattle.df_hashes.proofs.ListingLaws.{mget_is}
use Rattle.df_hashes.proofs.look.mget.Goals as goal

pub fields-init : goal.fields-init
fields-init c =
    let fields = c.args.fields.now in
    ap (λ x. x ++ flat_map (λ w. encoding_of (bulk_or_null (map.get c.args.hash.now.fields w))) fields) c.in_ok-put_array_head.ensures ∙ sym (mget_is fields c.args.hash.now.fields)
