-- Over a host that tells nothing a file is refused only where the count of faults rose.
use Rattle.std.proofs.Common.{◌≡◌, ◌≢◌, ◌∙◌, List, ap, arith, inl, inr, sym, ℕ}
use Rattle.std.specs.Prelude.{Option, Some, None, is_some}
use mathlib.Core.Bool.{false≢true}
use Rattle.base_core.specs.Counts.{Rose}
use Rattle.kv_host.specs.Contents.{HostContents}
use Rattle.kv_cli.specs.declared.refusal.Refusal.{Refusal}
use Rattle.kv_cli.specs.declared.refusal.Refusal.TheVariants as refusal
use Rattle.kv_cli.specs.declared.stop.Stop.{Stop}
use Rattle.kv_cli.specs.declared.stop.Stop.TheVariants as stop
use Rattle.kv_cli.specs.Asked.{Asked}
use Rattle.kv_cli.specs.Outcomes.{Around, HasEnded, IsCounted, IsFinished, IsPrinted, IsRefused, Left, StopsFor, chance_text}
use Rattle.kv_cli.specs.Refusals.{status_of, words_line}
use Rattle.kv_cli.specs.Replays.{text_by}

other_printed : (bytes : List ℕ) (done : ℕ) (a : Around) (status : ℕ) → IsPrinted bytes done a status → status ≡ 6 → done ≢ 6 → Rose a.faults a.later
other_printed bytes done a status (inl all) is not = absurd (not (sym all.0 ∙ is))
other_printed bytes done a status (inr part) is not = part.1

of_files : (why : Refusal) (before now : ℕ) → IsCounted before now why → status_of why ≡ 6 → Rose before now
of_files (refusal.BadLine line) before now counted is = absurd (omega (arith, is))
of_files (refusal.WrongSize size) before now counted is = absurd (omega (arith, is))
of_files (refusal.Absent file) before now counted is = counted
of_files (refusal.TooLong file) before now counted is = counted

module _ (left : Option HostContents) (faults later : ℕ) where
  abbrev untold : Around
  untold = record { told = None; left = left; faults = faults; later = later }

  of_finish : (asked : Asked) (image text : List ℕ) (end : Left) → IsFinished asked image text untold end → end.status ≡ 6 → Rose faults later
  of_finish asked image text end (inl failed) is = failed.2
  of_finish asked image text end (inr (same, inl all)) is = absurd (omega (arith, is, all.0))
  of_finish asked image text end (inr (same, inr part)) is = part.1

  of_stop : (asked : Asked) (stop : Stop) (status : ℕ) → StopsFor asked untold stop → IsRefused asked stop untold status → status ≡ 6 → Rose faults later
  of_stop asked (stop.Refused why) status cause (inl (inl all)) is = of_files why faults later cause (sym all.0 ∙ is)
  of_stop asked (stop.Refused why) status cause (inl (inr part)) is = part.1
  of_stop asked (stop.Refused why) status cause (inr none) is = absurd (omega (arith, is, none.0))
  of_stop asked stop.Fault status cause refused is = cause
  of_stop asked stop.Memory status cause refused is = absurd (omega (arith, is, refused.0))

  pub file : (words : List (List ℕ)) (end : Left) → HasEnded words untold end → end.status ≡ 6 → Rose faults later
  file words end (inl (none, nothing, printed)) is = other_printed words_line 1 untold end.status printed is (λ k. omega (arith, k))
  file words end (inr (asked, asks, inl (image, done, finished))) is = of_finish asked image (text_by asked.by_client end.entries) end finished is
  file words end (inr (asked, asks, inr (inl (place, done, none, printed)))) is = other_printed (chance_text asked end.entries place) 5 untold end.status printed is (λ k. omega (arith, k))
  file words end (inr (asked, asks, inr (inr (nothing, (stop, cause, refused))))) is = of_stop asked stop end.status cause refused is

  pub file_untold : (told : Option HostContents) (words : List (List ℕ)) (end : Left) → told ≡ None
      → HasEnded words (record { told = told; left = left; faults = faults; later = later }) end → end.status ≡ 6 → Rose faults later
  file_untold None words end none ended is = file words end ended is
  file_untold (Some contents) words end none ended is = absurd (false≢true (sym (ap is_some none)))
