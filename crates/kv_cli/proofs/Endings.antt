-- How the work can end, and that of its ends one alone fits the words and the files.
use Rattle.std.proofs.Common.{◌≡◌, ◌≢◌, ℕ, ◌≤◌, ◌⊎◌, inl, inr, List, [], length, refl, sym, subst, ap, ◌∙◌, arith}
use Rattle.std.specs.Prelude.{Option, Some, None, IfSome}
use Rattle.kv_host.specs.Contents.{HostContents, file_at, with_printed}
use Rattle.kv_model.specs.declared.call.Entry.{Entry}
use Rattle.script_core.specs.declared.line.Line.{Line}
use Rattle.script_core.specs.Grammar.{IsScript}
use Rattle.script_core.proofs.Texts.{one_script, read_text-script, read_text-bad, read_text-full}
use Rattle.kv_cli.specs.declared.refusal.Refusal.{Refusal}
use Rattle.kv_cli.specs.declared.refusal.Refusal.TheVariants as refusal
use Rattle.kv_cli.specs.declared.stop.Stop.{Stop}
use Rattle.kv_cli.specs.declared.stop.Stop.TheVariants as stop
use Rattle.kv_cli.specs.Asked.{Asked, Asks, AsksNothing}
use Rattle.kv_cli.specs.Inputs.{GivesReplay, HasImage, HasInputs, HasScript, IsBadLine, IsReadable, image_limit, plain_replay, script_limit}
use Rattle.kv_cli.specs.Outcomes.{Around, GivesLine, HasEnded, IsByChance, IsCutShort, IsDone, IsFinished, IsNothing, IsPrinted, IsRefused, IsReplayed, IsReplayedUnlessHindered, IsStopped, IsUnlessHindered, Left, PrintsLine, Replays, StopsByChance, StopsFor, chance_text, ends_with}
use Rattle.kv_cli.specs.Refusals.{Gives, HasBadLine, HasSomeScript, IsCause, IsRead, LacksFile, LacksImage, LacksScript, line_of, limit_of, name_of, status_of, words_line}
use Rattle.kv_cli.specs.Replays.{cuts_of, text_by}
use Rattle.kv_cli.proofs.AskedLemmas.{one_asked}

-- ---- the causes exclude one another

bad_or_script : (text : List ℕ) (number : ℕ) (lines : List Line) → IsBadLine text number → IsScript plain_replay text lines → ⊥
bad_or_script text number lines (inl bad) script =
    let none = read_text-bad plain_replay text number bad in
    let some = read_text-script plain_replay text lines script in absurd cc
bad_or_script text number lines (inr full) script =
    let none = read_text-full plain_replay text number full in
    let some = read_text-script plain_replay text lines script in absurd cc

one_text : (a b : List ℕ) (found : Option (List ℕ)) → found ≡ Some a → found ≡ Some b → a ≡ b
one_text a b found h k = cc

-- a file is read as one list of bytes
one_file : (limit : ℕ) (name : List ℕ) (contents : HostContents) (a b : List ℕ) → IsReadable limit name contents a → IsReadable limit name contents b → a ≡ b
one_file limit name contents a b h k = one_text a b (file_at name contents) h.there k.there

-- and a text as one list of lines
one_list : (name : List ℕ) (contents : HostContents) (a b : List Line) → HasScript name contents a → HasScript name contents b → a ≡ b
one_list name contents a b h k =
    let same = one_file script_limit name contents h.text k.text h.readable k.readable in
    one_script plain_replay k.text a b (subst (λ (text : List ℕ). IsScript plain_replay text a) same h.script) k.script

no_script : (asked : Asked) (contents : HostContents) (number : ℕ) → HasBadLine asked contents number → HasSomeScript asked contents → ⊥
no_script asked contents number bad (lines, script) =
    let same = one_file script_limit asked.names.script contents script.text bad.text script.readable bad.readable in
    bad_or_script bad.text number lines bad.bad (subst (λ (text : List ℕ). IsScript plain_replay text lines) same script.script)

-- what can't be read
record IsUnread (asked : Asked) (contents : HostContents) : Type 0 where
  name : List ℕ
  limit : ℕ
  is_read : IsRead asked contents name limit
  unreadable : (bytes : List ℕ) → IsReadable limit name contents bytes → ⊥

unread : (asked : Asked) (contents : HostContents) (line : List ℕ) → LacksFile asked contents line → IsUnread asked contents
unread asked contents line (inl (name, absent, is)) = record {
  name = name;
  limit = absent.limit;
  is_read = absent.is_read;
  unreadable = λ bytes readable. let none = absent.absent in let some = readable.there in absurd cc;
}
unread asked contents line (inr (name, limit, over, is)) = record {
  name = name;
  limit = limit;
  is_read = over.is_read;
  unreadable = λ bytes readable. let same = one_text over.bytes bytes (file_at name contents) over.there readable.there in omega (arith, over.over, readable.fits, ap length same);
}

-- an image that can be read, behind a script
record HasReadImage (asked : Asked) (contents : HostContents) : Type 0 where
  script : HasSomeScript asked contents
  image : List ℕ
  readable : IsReadable image_limit asked.names.primary contents image

of_wrong : (asked : Asked) (contents : HostContents) (line : List ℕ) → LacksImage asked contents line → HasReadImage asked contents
of_wrong asked contents line (size, wrong, is) = record { script = wrong.script; image = wrong.image; readable = wrong.readable }

-- a script and an image of the right size
abbrev IsWhole : Asked → HostContents → Type 0
IsWhole asked contents = HasSomeScript asked contents × ((image : List ℕ) × HasImage asked contents image)

of_whole : (asked : Asked) (contents : HostContents) → IsWhole asked contents → HasReadImage asked contents
of_whole asked contents whole = record { script = whole.0; image = whole.1.0; readable = whole.1.1.readable }

unread_script : (asked : Asked) (contents : HostContents) (text : List ℕ) → IsReadable script_limit asked.names.script contents text → (HasSomeScript asked contents → ⊥) → IsUnread asked contents → ⊥
unread_script asked contents text readable none lacks = elim (lacks.is_read) [
  | inl (name, limit) ↦ lacks.unreadable text (subst (λ (n : List ℕ). IsReadable lacks.limit n contents text) (sym name) (subst (λ (l : ℕ). IsReadable l asked.names.script contents text) (sym limit) readable))
  | inr (script, name, limit) ↦ none script
]

bad_or_unread : (asked : Asked) (contents : HostContents) (number : ℕ) → HasBadLine asked contents number → IsUnread asked contents → ⊥
bad_or_unread asked contents number bad = unread_script asked contents bad.text bad.readable (no_script asked contents number bad)

image_or_unread : (asked : Asked) (contents : HostContents) → HasReadImage asked contents → IsUnread asked contents → ⊥
image_or_unread asked contents read lacks = elim (lacks.is_read) [
  | inl (name, limit) ↦ let script = read.script.1 in
      lacks.unreadable script.text (subst (λ (n : List ℕ). IsReadable lacks.limit n contents script.text) (sym name) (subst (λ (l : ℕ). IsReadable l asked.names.script contents script.text) (sym limit) script.readable))
  | inr (script, name, limit) ↦
      lacks.unreadable read.image (subst (λ (n : List ℕ). IsReadable lacks.limit n contents read.image) (sym name) (subst (λ (l : ℕ). IsReadable l asked.names.primary contents read.image) (sym limit) read.readable))
]

image_or_whole : (asked : Asked) (contents : HostContents) (line : List ℕ) → LacksImage asked contents line → IsWhole asked contents → ⊥
image_or_whole asked contents line (size, wrong, is) whole =
    let has = whole.1.1 in
    let same = one_file image_limit asked.names.primary contents wrong.image whole.1.0 wrong.readable has.readable in
    wrong.wrong (sym wrong.size_is ∙ ap length same ∙ has.sized)

-- ---- how the work can end

-- the words ask for files for which this refusal came, and its line was printed
record IsRefusedFor (words : List (List ℕ)) (contents : HostContents) (left : Option HostContents) (status : ℕ) : Type 0 where
  asked : Asked
  asks : Asks words asked
  why : Refusal
  status_is : status ≡ status_of why
  cause : IsCause asked contents why
  printed : left ≡ Some (with_printed (line_of asked why) contents)

-- the ends with their statuses: 0, 5, 1, those of refusals, 4 and 9
abbrev Ends : List (List ℕ) → HostContents → Option HostContents → Left → Type 0
Ends words contents left end =
    ((end.status ≡ 0) × IsDone words contents left end)
    ⊎ ((end.status ≡ 5) × IsByChance words contents left end)
    ⊎ ((end.status ≡ 1) × AsksNothing words)
    ⊎ IsRefusedFor words contents left end.status
    ⊎ ((end.status ≡ 4) × IsCutShort words contents left end)
    ⊎ (end.status ≡ 9)

gives_line : (words : List (List ℕ)) (contents : HostContents) (asked : Asked) (why : Refusal) → Asks words asked → IsCause asked contents why → GivesLine words contents (line_of asked why)
gives_line words contents asked (refusal.BadLine line) asks cause = inr (inl (record { asked = asked; asks = asks; cause = (line, cause, refl) }))
gives_line words contents asked (refusal.WrongSize size) asks cause = inr (inr (inl (record { asked = asked; asks = asks; cause = (size, cause, refl) })))
gives_line words contents asked (refusal.Absent file) asks cause = inr (inr (inr (record { asked = asked; asks = asks; cause = inl (name_of asked file, cause, refl) })))
gives_line words contents asked (refusal.TooLong file) asks cause = inr (inr (inr (record { asked = asked; asks = asks; cause = inr (name_of asked file, limit_of file, cause, refl) })))

module _ (words : List (List ℕ)) (contents : HostContents) (left : Option HostContents) (faults later : ℕ) where
  abbrev here : Around
  here = record { told = Some contents; left = left; faults = faults; later = later }

  module _ (end : Left) (asked : Asked) (asks : Asks words asked) where
    of_stop : (stop : Stop) → IsNothing end → StopsFor asked here stop → IsRefused asked stop here end.status → Ends words contents left end
    of_stop (stop.Refused why) nothing cause refused = elim refused [
      | inl (inl all) ↦ inr (inr (inr (inl (record { asked = asked; asks = asks; why = why; status_is = all.0; cause = cause; printed = all.1 }))))
      | inl (inr part) ↦ inr (inr (inr (inr (inl (part.0, inr (inl (nothing, (line_of asked why, gives_line words contents asked why asks cause, part.2))))))))
      | inr none ↦ inr (inr (inr (inr (inr none.0))))
    ]
    of_stop stop.Fault nothing cause refused = inr (inr (inr (inr (inl (refused.0, inl (nothing, refused.1))))))
    of_stop stop.Memory nothing cause refused = inr (inr (inr (inr (inr refused.0))))

    abbrev given : (lines : List Line) (image : List ℕ) → HasInputs asked contents lines image → GivesReplay words contents
    given lines image inputs = record { asked = asked; asks = asks; lines = lines; image = image; inputs = inputs }

    abbrev replays : (written : List ℕ) → IsReplayed asked (Some contents) end.entries written → Replays words contents end.entries written
    replays written done = record { gives = given done.lines done.image done.read; replay = done.replay }

    abbrev stops : (place : ℕ) → IsStopped asked (Some contents) end.entries place → StopsByChance words contents end.entries
    stops place done = record { gives = given done.lines done.image done.read; place = place; replay = done.replay }

  of_finish : (status : ℕ) (entries : List Entry) (written image : List ℕ) (asked : Asked) (asks : Asks words asked) → IsReplayed asked (Some contents) entries image
      → IsFinished asked image (text_by asked.by_client entries) here (ends_with status entries written) → Ends words contents left (ends_with status entries written)
  of_finish status entries written image asked asks done (inl failed) =
      inr (inr (inr (inr (inl (failed.0, inr (inr (inl (failed.1, failed.3, (image, replays (ends_with status entries written) asked asks image done)))))))))
  of_finish status entries written image asked asks done (inr (same, inl all)) =
      subst (λ (w : List ℕ). Ends words contents left (ends_with status entries w)) (sym same)
      (inl (all.0, (replays (ends_with status entries image) asked asks image done, all.1)))
  of_finish status entries written image asked asks done (inr (same, inr part)) =
      subst (λ (w : List ℕ). Ends words contents left (ends_with status entries w)) (sym same)
      (inr (inr (inr (inr (inl (part.0, inr (inr (inr (inl (replays (ends_with status entries image) asked asks image done, part.2))))))))))

  of_chance : (end : Left) (asked : Asked) (asks : Asks words asked) (place : ℕ) → IsStopped asked (Some contents) end.entries place → end.written ≡ []
      → IsPrinted (chance_text asked end.entries place) 5 here end.status → Ends words contents left end
  of_chance end asked asks place done none (inl all) = inr (inl (all.0, (stops end asked asks place done, none, all.1)))
  of_chance end asked asks place done none (inr part) =
      inr (inr (inr (inr (inl (part.0, inr (inr (inr (inr (none, (stops end asked asks place done, part.2))))))))))

  ends : (end : Left) → HasEnded words here end → Ends words contents left end
  ends end (inl (none, nothing, inl all)) = inr (inr (inl (all.0, none)))
  ends end (inl (none, nothing, inr part)) = inr (inr (inr (inr (inl (part.0, inr (inl (nothing, (words_line, inl (none, refl), part.2))))))))
  ends end (inr (asked, asks, inl (image, done, finished))) = of_finish end.status end.entries end.written image asked asks done finished
  ends end (inr (asked, asks, inr (inl (place, done, none, printed)))) = of_chance end asked asks place done none printed
  ends end (inr (asked, asks, inr (inr (nothing, (stop, cause, refused))))) = of_stop end asked asks stop nothing cause refused

-- ---- the clauses

-- no refusal has the status of what was done, of a fault, or of a record by chance
no_done : (why : Refusal) → status_of why ≢ 0
no_done (refusal.BadLine line) is = omega (arith, is)
no_done (refusal.WrongSize size) is = omega (arith, is)
no_done (refusal.Absent file) is = omega (arith, is)
no_done (refusal.TooLong file) is = omega (arith, is)

pub no_fault : (why : Refusal) → status_of why ≢ 4
no_fault (refusal.BadLine line) is = omega (arith, is)
no_fault (refusal.WrongSize size) is = omega (arith, is)
no_fault (refusal.Absent file) is = omega (arith, is)
no_fault (refusal.TooLong file) is = omega (arith, is)

no_chance : (why : Refusal) → status_of why ≢ 5
no_chance (refusal.BadLine line) is = omega (arith, is)
no_chance (refusal.WrongSize size) is = omega (arith, is)
no_chance (refusal.Absent file) is = omega (arith, is)
no_chance (refusal.TooLong file) is = omega (arith, is)

-- the cause of a refusal, by its status
abbrev Of : Asked → HostContents → List ℕ → ℕ → Type 0
Of asked contents line status =
    ((status ≡ 2) × LacksScript asked contents line) ⊎ ((status ≡ 3) × LacksImage asked contents line) ⊎ ((status ≡ 6) × LacksFile asked contents line)

of : (asked : Asked) (contents : HostContents) (why : Refusal) → IsCause asked contents why → Of asked contents (line_of asked why) (status_of why)
of asked contents (refusal.BadLine line) cause = inl (refl, (line, cause, refl))
of asked contents (refusal.WrongSize size) cause = inr (inl (refl, (size, cause, refl)))
of asked contents (refusal.Absent file) cause = inr (inr (refl, inl (name_of asked file, cause, refl)))
of asked contents (refusal.TooLong file) cause = inr (inr (refl, inr (name_of asked file, limit_of file, cause, refl)))

-- a refusal that was printed, with its cause
record IsPrintedFor (words : List (List ℕ)) (contents : HostContents) (left : Option HostContents) (status : ℕ) : Type 0 where
  asked : Asked
  asks : Asks words asked
  line : List ℕ
  cause : Of asked contents line status
  printed : left ≡ Some (with_printed line contents)

-- a status of a refusal of the files
abbrev IsOfFiles : ℕ → Type 0
IsOfFiles status = (status ≡ 2) ⊎ ((status ≡ 3) ⊎ (status ≡ 6))

other_status : (status n : ℕ) → IsOfFiles status → status ≡ n → n ≢ 2 → n ≢ 3 → n ≢ 6 → ⊥
other_status status n (inl two) is a b c = a (sym is ∙ two)
other_status status n (inr (inl three)) is a b c = b (sym is ∙ three)
other_status status n (inr (inr six)) is a b c = c (sym is ∙ six)

module _ (words : List (List ℕ)) (contents : HostContents) (left : Option HostContents) (end : Left) (ended : Ends words contents left end) where
  when_done : end.status ≡ 0 → IsDone words contents left end
  when_done is = elim ended [
    | inl whole ↦ whole.1
    | inr (inl chance) ↦ absurd (omega (arith, is, chance.0))
    | inr (inr (inl none)) ↦ absurd (omega (arith, is, none.0))
    | inr (inr (inr (inl why))) ↦ absurd (no_done why.why (sym why.status_is ∙ is))
    | inr (inr (inr (inr (inl cut)))) ↦ absurd (omega (arith, is, cut.0))
    | inr (inr (inr (inr (inr none)))) ↦ absurd (omega (arith, is, none))
  ]

  when_chance : end.status ≡ 5 → IsByChance words contents left end
  when_chance is = elim ended [
    | inl whole ↦ absurd (omega (arith, is, whole.0))
    | inr (inl chance) ↦ chance.1
    | inr (inr (inl none)) ↦ absurd (omega (arith, is, none.0))
    | inr (inr (inr (inl why))) ↦ absurd (no_chance why.why (sym why.status_is ∙ is))
    | inr (inr (inr (inr (inl cut)))) ↦ absurd (omega (arith, is, cut.0))
    | inr (inr (inr (inr (inr none)))) ↦ absurd (omega (arith, is, none))
  ]

  when_cut : end.status ≡ 4 → IsCutShort words contents left end
  when_cut is = elim ended [
    | inl whole ↦ absurd (omega (arith, is, whole.0))
    | inr (inl chance) ↦ absurd (omega (arith, is, chance.0))
    | inr (inr (inl none)) ↦ absurd (omega (arith, is, none.0))
    | inr (inr (inr (inl why))) ↦ absurd (no_fault why.why (sym why.status_is ∙ is))
    | inr (inr (inr (inr (inl cut)))) ↦ cut.1
    | inr (inr (inr (inr (inr none)))) ↦ absurd (omega (arith, is, none))
  ]

  printed_for : IsOfFiles end.status → IsPrintedFor words contents left end.status
  printed_for files = elim ended [
    | inl whole ↦ absurd (other_status end.status 0 files whole.0 (λ k. omega (arith, k)) (λ k. omega (arith, k)) (λ k. omega (arith, k)))
    | inr (inl chance) ↦ absurd (other_status end.status 5 files chance.0 (λ k. omega (arith, k)) (λ k. omega (arith, k)) (λ k. omega (arith, k)))
    | inr (inr (inl none)) ↦ absurd (other_status end.status 1 files none.0 (λ k. omega (arith, k)) (λ k. omega (arith, k)) (λ k. omega (arith, k)))
    | inr (inr (inr (inl why))) ↦ record {
      asked = why.asked;
      asks = why.asks;
      line = line_of why.asked why.why;
      cause = subst (Of why.asked contents (line_of why.asked why.why)) (sym why.status_is) (of why.asked contents why.why why.cause);
      printed = why.printed;
    }
    | inr (inr (inr (inr (inl cut)))) ↦ absurd (other_status end.status 4 files cut.0 (λ k. omega (arith, k)) (λ k. omega (arith, k)) (λ k. omega (arith, k)))
    | inr (inr (inr (inr (inr none)))) ↦ absurd (other_status end.status 9 files none (λ k. omega (arith, k)) (λ k. omega (arith, k)) (λ k. omega (arith, k)))
  ]

  when_script : end.status ≡ 2 → PrintsLine LacksScript words contents left
  when_script is = let p = printed_for (inl is) in elim (p.cause) [
    | inl bad ↦ (p.line, record { asked = p.asked; asks = p.asks; cause = bad.1 }, p.printed)
    | inr (inl other) ↦ absurd (omega (arith, is, other.0))
    | inr (inr other) ↦ absurd (omega (arith, is, other.0))
  ]

  when_image : end.status ≡ 3 → PrintsLine LacksImage words contents left
  when_image is = let p = printed_for (inr (inl is)) in elim (p.cause) [
    | inl other ↦ absurd (omega (arith, is, other.0))
    | inr (inl bad) ↦ (p.line, record { asked = p.asked; asks = p.asks; cause = bad.1 }, p.printed)
    | inr (inr other) ↦ absurd (omega (arith, is, other.0))
  ]

  when_file : end.status ≡ 6 → PrintsLine LacksFile words contents left
  when_file is = let p = printed_for (inr (inr is)) in elim (p.cause) [
    | inl other ↦ absurd (omega (arith, is, other.0))
    | inr (inl other) ↦ absurd (omega (arith, is, other.0))
    | inr (inr bad) ↦ (p.line, record { asked = p.asked; asks = p.asks; cause = bad.1 }, p.printed)
  ]

  -- ---- exactness

  -- a script with a cut, or a cut of the words
  abbrev HasCut : Asked → Type 0
  HasCut asked = (lines : List Line) × HasScript asked.names.script contents lines × (1 ≤ cuts_of asked lines)

  -- the status of an end that was not hindered, with its cause
  abbrev HasCause : Asked → Type 0
  HasCause asked = (((end.status ≡ 0) ⊎ ((end.status ≡ 5) × HasCut asked)) × IsWhole asked contents) ⊎ ((line : List ℕ) × Of asked contents line end.status)

  whole_of : (asked : Asked) → Asks words asked → GivesReplay words contents → IsWhole asked contents
  whole_of asked asks gives =
      subst (λ (a : Asked). IsWhole a contents) (one_asked words gives.asked asked gives.asks asks)
      ((gives.lines, gives.inputs.has_script), (gives.image, gives.inputs.has_image))

  cut_of : (asked : Asked) → Asks words asked → StopsByChance words contents end.entries → HasCut asked
  cut_of asked asks stops =
      subst HasCut (one_asked words stops.gives.asked asked stops.gives.asks asks) (stops.gives.lines, stops.gives.inputs.has_script, stops.replay.cut)

  -- where the words ask for these files, the status has its cause
  cause : (asked : Asked) → Asks words asked → end.status ≢ 4 → end.status ≢ 9 → HasCause asked
  cause asked asks a b = elim ended [
    | inl whole ↦ inl (inl whole.0, whole_of asked asks whole.1.0.gives)
    | inr (inl chance) ↦ inl (inr (chance.0, cut_of asked asks chance.1.0), whole_of asked asks chance.1.0.gives)
    | inr (inr (inl none)) ↦ absurd (none.1 asked asks)
    | inr (inr (inr (inl why))) ↦ inr (
      line_of why.asked why.why,
      subst (λ (n : Asked). Of n contents (line_of why.asked why.why) end.status) (one_asked words why.asked asked why.asks asks)
          (subst (Of why.asked contents (line_of why.asked why.why)) (sym why.status_is) (of why.asked contents why.why why.cause)),
    )
    | inr (inr (inr (inr (inl cut)))) ↦ absurd (a cut.0)
    | inr (inr (inr (inr (inr none)))) ↦ absurd (b none)
  ]

  only_bad : (line : List ℕ) → Gives LacksScript words contents line → IsUnlessHindered 2 end.status
  only_bad line gives a b = let asked = gives.asked in let bad = gives.cause.1 in elim (cause asked gives.asks a b) [
    | inl whole ↦ absurd (no_script asked contents gives.cause.0 bad whole.1.0)
    | inr (other, inl same) ↦ same.0
    | inr (other, inr (inl wrong)) ↦ absurd (no_script asked contents gives.cause.0 bad (of_wrong asked contents other wrong.1).script)
    | inr (other, inr (inr lacks)) ↦ absurd (bad_or_unread asked contents gives.cause.0 bad (unread asked contents other lacks.1))
  ]

  only_wrong : (line : List ℕ) → Gives LacksImage words contents line → IsUnlessHindered 3 end.status
  only_wrong line gives a b = let asked = gives.asked in let read = of_wrong asked contents line gives.cause in elim (cause asked gives.asks a b) [
    | inl whole ↦ absurd (image_or_whole asked contents line gives.cause whole.1)
    | inr (other, inl bad) ↦ absurd (no_script asked contents bad.1.0 bad.1.1 read.script)
    | inr (other, inr (inl same)) ↦ same.0
    | inr (other, inr (inr lacks)) ↦ absurd (image_or_unread asked contents read (unread asked contents other lacks.1))
  ]

  only_lacking : (line : List ℕ) → Gives LacksFile words contents line → IsUnlessHindered 6 end.status
  only_lacking line gives a b = let asked = gives.asked in let lacks = unread asked contents line gives.cause in elim (cause asked gives.asks a b) [
    | inl whole ↦ absurd (image_or_unread asked contents (of_whole asked contents whole.1) lacks)
    | inr (other, inl bad) ↦ absurd (bad_or_unread asked contents bad.1.0 bad.1.1 lacks)
    | inr (other, inr (inl wrong)) ↦ absurd (image_or_unread asked contents (of_wrong asked contents other wrong.1) lacks)
    | inr (other, inr (inr same)) ↦ same.0
  ]

  replayed : (gives : GivesReplay words contents) → (end.status ≡ 0) ⊎ ((end.status ≡ 5) × HasCut gives.asked)
      → (end.status ≡ 0) ⊎ ((end.status ≡ 5) × (1 ≤ cuts_of gives.asked gives.lines))
  replayed gives (inl is) = inl is
  replayed gives (inr (is, (lines, script, cut))) = inr (
    is,
    subst (λ (l : List Line). 1 ≤ cuts_of gives.asked l) (one_list gives.asked.names.script contents lines gives.lines script gives.inputs.has_script) cut,
  )

  only_whole : (gives : GivesReplay words contents) → IsReplayedUnlessHindered gives.asked gives.lines end.status
  only_whole gives a b = let asked = gives.asked in let whole = whole_of asked gives.asks gives in elim (cause asked gives.asks a b) [
    | inl same ↦ replayed gives same.0
    | inr (other, inl bad) ↦ absurd (no_script asked contents bad.1.0 bad.1.1 whole.0)
    | inr (other, inr (inl wrong)) ↦ absurd (image_or_whole asked contents other wrong.1 whole)
    | inr (other, inr (inr lacks)) ↦ absurd (image_or_unread asked contents (of_whole asked contents whole) (unread asked contents other lacks.1))
  ]

-- ---- the same where the host may tell nothing

module _ (words : List (List ℕ)) (left : Option HostContents) (faults later : ℕ) (end : Left) where
  abbrev seen : Option HostContents → Around
  seen told = record { told = told; left = left; faults = faults; later = later }

  where_told : (told : Option HostContents) (P : HostContents → Type 0) → HasEnded words (seen told) end → ((contents : HostContents) → Ends words contents left end → P contents) → IfSome told P
  where_told None P ended follows = tt
  where_told (Some contents) P ended follows = follows contents (ends words contents left faults later end ended)

  pub done : (told : Option HostContents) → HasEnded words (seen told) end → end.status ≡ 0 → IfSome told (λ c. IsDone words c left end)
  done told ended is = where_told told (λ c. IsDone words c left end) ended (λ c e. when_done words c left end e is)

  pub chance : (told : Option HostContents) → HasEnded words (seen told) end → end.status ≡ 5 → IfSome told (λ c. IsByChance words c left end)
  chance told ended is = where_told told (λ c. IsByChance words c left end) ended (λ c e. when_chance words c left end e is)

  pub cut_short : (told : Option HostContents) → HasEnded words (seen told) end → end.status ≡ 4 → IfSome told (λ c. IsCutShort words c left end)
  cut_short told ended is = where_told told (λ c. IsCutShort words c left end) ended (λ c e. when_cut words c left end e is)

  pub script : (told : Option HostContents) → HasEnded words (seen told) end → end.status ≡ 2 → IfSome told (λ c. PrintsLine LacksScript words c left)
  script told ended is = where_told told (λ c. PrintsLine LacksScript words c left) ended (λ c e. when_script words c left end e is)

  pub image : (told : Option HostContents) → HasEnded words (seen told) end → end.status ≡ 3 → IfSome told (λ c. PrintsLine LacksImage words c left)
  image told ended is = where_told told (λ c. PrintsLine LacksImage words c left) ended (λ c e. when_image words c left end e is)

  pub file : (told : Option HostContents) → HasEnded words (seen told) end → end.status ≡ 6 → IfSome told (λ c. PrintsLine LacksFile words c left)
  file told ended is = where_told told (λ c. PrintsLine LacksFile words c left) ended (λ c e. when_file words c left end e is)

  pub only_script : (told : Option HostContents) → HasEnded words (seen told) end → IfSome told (λ c. (line : List ℕ) → Gives LacksScript words c line → IsUnlessHindered 2 end.status)
  only_script told ended = where_told told (λ c. (line : List ℕ) → Gives LacksScript words c line → IsUnlessHindered 2 end.status) ended (λ c e. only_bad words c left end e)

  pub only_image : (told : Option HostContents) → HasEnded words (seen told) end → IfSome told (λ c. (line : List ℕ) → Gives LacksImage words c line → IsUnlessHindered 3 end.status)
  only_image told ended = where_told told (λ c. (line : List ℕ) → Gives LacksImage words c line → IsUnlessHindered 3 end.status) ended (λ c e. only_wrong words c left end e)

  pub only_file : (told : Option HostContents) → HasEnded words (seen told) end → IfSome told (λ c. (line : List ℕ) → Gives LacksFile words c line → IsUnlessHindered 6 end.status)
  only_file told ended = where_told told (λ c. (line : List ℕ) → Gives LacksFile words c line → IsUnlessHindered 6 end.status) ended (λ c e. only_lacking words c left end e)

  pub only_done : (told : Option HostContents) → HasEnded words (seen told) end → IfSome told (λ c. (gives : GivesReplay words c) → IsReplayedUnlessHindered gives.asked gives.lines end.status)
  only_done told ended = where_told told (λ c. (gives : GivesReplay words c) → IsReplayedUnlessHindered gives.asked gives.lines end.status) ended (λ c e. only_whole words c left end e)

-- ---- a refusal leaves nothing

pub nothing : (words : List (List ℕ)) (a : Around) (end : Left) → HasEnded words a end → end.status ≢ 0 → end.status ≢ 4 → end.status ≢ 5 → IsNothing end
nothing words a end (inl (none, empty, printed)) done fault chance = empty
nothing words a end (inr (asked, asks, inl (image, replayed, inl failed))) done fault chance = absurd (fault failed.0)
nothing words a end (inr (asked, asks, inl (image, replayed, inr (same, inl all)))) done fault chance = absurd (done all.0)
nothing words a end (inr (asked, asks, inl (image, replayed, inr (same, inr part)))) done fault chance = absurd (fault part.0)
nothing words a end (inr (asked, asks, inr (inl (place, stopped, none, inl all)))) done fault chance = absurd (chance all.0)
nothing words a end (inr (asked, asks, inr (inl (place, stopped, none, inr part)))) done fault chance = absurd (fault part.0)
nothing words a end (inr (asked, asks, inr (inr (empty, why)))) done fault chance = empty
