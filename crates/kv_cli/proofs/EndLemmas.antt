-- How a part of the work ended, as the whole saw it: the part began with a count that may have risen, and told what the whole did.
use Rattle.std.proofs.Common.{◌≡◌, ℕ, ◌+◌, ◌≤◌, List, length, take, sym, ◌∙◌, ap, subst, inl, inr, arith}
use Rattle.std.specs.Prelude.{Option}
use Rattle.std.specs.Option.{option_map}
use Rattle.base_core.specs.Counts.{Rose}
use Rattle.base_core.proofs.CountLemmas.{Rose-since}
use Rattle.flash_core.specs.Sizes.{size_of}
use Rattle.kv_host.specs.Contents.{HostContents, with_file, with_printed}
use Rattle.kv_model.specs.declared.call.Entry.{Entry}
use Rattle.kv_cli.specs.declared.run.RunEnd.{RunEnd}
use Rattle.kv_cli.specs.declared.run.RunEnd.TheVariants as run
use Rattle.kv_cli.specs.declared.stop.Stop.{Stop}
use Rattle.kv_cli.specs.declared.stop.Stop.TheVariants as stop
use Rattle.kv_cli.specs.Asked.{Asked}
use Rattle.kv_cli.specs.Outcomes.{Around, HasEndedFor, IsFinished, IsNothing, IsPrinted, IsRefused, Left, StopsFor}
use Rattle.kv_cli.specs.Refusals.{line_of, status_of}
use Rattle.kv_cli.specs.Replays.{text_by}
use Rattle.kv_cli.specs.Runs.{EndsRun, IsMade, printed_by, size_in}
use Rattle.kv_cli.proofs.Causes.{stops_until}

printed_since : (bytes : List ℕ) (done status : ℕ) (told mid left : Option HostContents) (faults between later : ℕ) → mid ≡ told → faults ≤ between
    → IsPrinted bytes done (record { told = mid; left = left; faults = between; later = later }) status
    → IsPrinted bytes done (record { told = told; left = left; faults = faults; later = later }) status
printed_since bytes done status told mid left faults between later stands since (inl all) = inl (all.0, all.1 ∙ ap (option_map (with_printed bytes)) stands)
printed_since bytes done status told mid left faults between later stands since (inr part) =
    let n = part.2.0 in
    inr (part.0, Rose-since since part.1, (n, part.2.1 ∙ ap (option_map (with_printed (take n bytes))) stands))

module _ (asked : Asked) (told mid left : Option HostContents) (faults between later : ℕ) (stands : mid ≡ told) (since : faults ≤ between) where
  abbrev whole : Around
  whole = record { told = told; left = left; faults = faults; later = later }

  abbrev part : Around
  part = record { told = mid; left = left; faults = between; later = later }

  finished_since : (image text : List ℕ) (end : Left) → IsFinished asked image text part end → IsFinished asked image text whole end
  finished_since image text end (inl failed) = inl (failed.0, failed.1, Rose-since since failed.2, failed.3 ∙ stands)
  finished_since image text end (inr (written, printed)) = inr (
    written,
    printed_since text 0 end.status (option_map (with_file asked.names.primary image) told) (option_map (with_file asked.names.primary image) mid) left faults between later
        (ap (option_map (with_file asked.names.primary image)) stands) since printed,
  )

  refused_since : (why : Stop) (status : ℕ) → IsRefused asked why part status → IsRefused asked why whole status
  refused_since (stop.Refused why) status (inl printed) = inl (printed_since (line_of asked why) (status_of why) status told mid left faults between later stands since printed)
  refused_since (stop.Refused why) status (inr none) = inr (none.0, none.1 ∙ stands)
  refused_since stop.Fault status refused = (refused.0, refused.1 ∙ stands)
  refused_since stop.Memory status refused = (refused.0, refused.1 ∙ stands)

  ended_run : (end : Left) (ended : RunEnd) (text : List ℕ) → text ≡ printed_by asked.by_client end.entries ended → IsMade asked told end.entries ended
      → EndsRun asked ended text part end → HasEndedFor asked whole end
  ended_run end (run.Image image) text is made ends = inl (
    image.items,
    record { lines = made.lines; image = made.image; read = made.read; replay = made.run },
    subst (λ (t : List ℕ). IsFinished asked image.items t whole end) is (finished_since image.items text end ends),
  )
  ended_run end (run.Chance place) text is made ends = inr (inl (
    place,
    record { lines = made.lines; image = made.image; read = made.read; replay = made.run },
    ends.0,
    subst (λ (t : List ℕ). IsPrinted t 5 whole end.status) is (printed_since text 5 end.status told mid left faults between later stands since ends.1),
  ))

  -- the calls were made, and their history is that of the end
  pub ended_behind : (entries : List Entry) (end : Left) (ended : RunEnd) (text : List ℕ) → end.entries ≡ entries → text ≡ printed_by asked.by_client entries ended
      → IsMade asked told entries ended → EndsRun asked ended text part end → HasEndedFor asked whole end
  ended_behind entries end ended text same is made ends =
      ended_run end ended text (subst (λ (es : List Entry). text ≡ printed_by asked.by_client es ended) (sym same) is)
      (subst (λ (es : List Entry). IsMade asked told es ended) (sym same) made) ends

  -- no call was made
  pub refused_behind : (end : Left) (why : Stop) (status : ℕ) → between ≤ later → end.status ≡ status → IsNothing end
      → StopsFor asked (record { told = told; left = mid; faults = faults; later = between }) why → IsRefused asked why part status → HasEndedFor asked whole end
  refused_behind end why status until is nothing cause refused = inr (inr (
    nothing,
    (
      why,
      stops_until asked told faults between later why until cause,
      refused_since why end.status (subst (IsRefused asked why part) (sym is) refused),
    ),
  ))

-- what is written and printed has room where a replay of the words has
pub fits_in : (asked : Asked) (told : Option HostContents) (entries later : List Entry) (ended : RunEnd) (text : List ℕ) (room : ℕ) → later ≡ entries → IsMade asked told entries ended
    → length text ≤ length (text_by asked.by_client entries) + 160 → size_of asked.geometry + length (text_by asked.by_client later) + 160 ≤ room → size_in ended + length text ≤ room
fits_in asked told entries later (run.Image image) text room same made short fits =
    omega (arith, made.run.image_of.sized, ap (λ (es : List Entry). length (text_by asked.by_client es)) same, short, fits)
fits_in asked told entries later (run.Chance place) text room same made short fits =
    omega (arith, ap (λ (es : List Entry). length (text_by asked.by_client es)) same, short, fits)
