use Rattle.std.proofs.Common.{◌∙◌, refl, sym, ap}
use Rattle.df_rdbcore.specs.Parts.{firsts}
use Rattle.df_rdbcore.specs.declared.fault.LoadFault.TheVariants as faults
use Rattle.df_rdbcore.specs.declared.fault.Twice.TheVariants as twice
use Rattle.df_values.specs.Seen.{seen}
use Rattle.df_rdbload.specs.FileStops.{EntryStops}
use Rattle.df_rdbload.specs.Entries.{EntryRead}
use Rattle.df_rdbload.proofs.Steps.{err_is, goes_on, reads_join, reads_stop, reads_stops, reads_refuse, reads_no_memory}
use Rattle.df_rdbload.proofs.KeyLaws.{key_again, key_new, key_added}
use Rattle.df_rdbload.proofs.parts.entry.Goals as goal

pub returns-in_err-key : goal.returns-in_err-key
returns-in_err-key g c read same = reads_stop (EntryRead c.args.kind read c.args.keys.now.entries) (EntryStops (firsts read) c.args.kind c.args.begin) _ (err_is _ c.in_err-key.field-0.0 c.from_residual.ensures.1) c.in_err-key.ensures (λ size at rest f place h. EntryStops.Key h)

pub returns-then-contains_key : goal.returns-then-contains_key
returns-then-contains_key g c read same =
    reads_refuse (EntryRead c.args.kind read c.args.keys.now.entries) (EntryStops (firsts read) c.args.kind c.args.begin) (faults.Duplicate twice.Key c.place-at.result) tt c.in_ok-key.ensures
    (λ size at rest form behind place is whole. EntryStops.Again
    (record { form = form; behind = behind; text = c.in_ok-key.key; form_is = is; whole = whole; known = key_again read c.args.keys.now.entries c.in_ok-key.key same (sym c.contains_key.ensures ∙ c.if-contains_key.true) })
    (ap (faults.Duplicate twice.Key) (c.place-at.ensures ∙ place)))

pub returns-in_err-held : goal.returns-in_err-held
returns-in_err-held g c read same =
    reads_stops (EntryRead c.args.kind read c.args.keys.now.entries) (EntryStops (firsts read) c.args.kind c.args.begin) _ (err_is _ c.in_err-held.field-0.0 c.from_residual-in_err-held.ensures.1) c.in_ok-key.ensures c.in_err-held.ensures
    (λ size at rest form behind f place is whole h. EntryStops.Held form behind c.in_ok-key.key is (key_new read c.args.keys.now.entries c.in_ok-key.key same (sym c.contains_key.ensures ∙ c.if-contains_key.false)) whole h)

pub returns-in-Ok : goal.returns-in-Ok
returns-in-Ok g c read same =
    reads_join (EntryRead c.args.kind read c.insert.new.self.entries) (EntryStops (firsts read) c.args.kind c.args.begin) tt c.in_ok-key.ensures c.in_ok-held.ensures
    (λ form more p q. (
      (c.in_ok-key.key, seen c.in_ok-held.held),
      record { first = form; rest = more; first_is = p; rest_is = q; whole = refl },
      key_added read c.args.keys.now.entries c.insert.new.self.entries c.in_ok-key.key c.in_ok-held.held same (sym c.contains_key.ensures ∙ c.if-contains_key.false) c.in-Ok.ensures.updates.0,
    ))

pub returns : goal.returns
returns g c read same = reads_no_memory (EntryRead c.args.kind read c.insert.new.self.entries) (EntryStops (firsts read) c.args.kind c.args.begin) (goes_on c.in_ok-key.ensures.goes c.in_ok-held.ensures.goes)
