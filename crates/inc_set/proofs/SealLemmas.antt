-- The last of a record.
use Rattle.std.proofs.Common.{◌≡◌, ℕ, ◌+◌, ◌-◌, ◌*◌, ◌/◌, ◌%◌, ◌<◌, ◌≤◌, List, [], ◌∷◌, ◌++◌, length, take, replicate, sym, ◌∙◌, ap, subst, arith, inl, append_assoc, append-nil, length-append}
use Rattle.std.specs.Prelude.{Some, Result, Ok, Err, IsErr, IfErr}
use Rattle.std.specs.Option.{ForSome}
use Rattle.std.proofs.lemmas.List.{length-replicate, length-take-le}
use Rattle.std.proofs.lemmas.Nat.{div-add-mod', mod_below}
use Rattle.std.proofs.Math.Nat.{zero-mod}
use Rattle.base_core.specs.Units.{IsMultipleOf, up}
use Rattle.base_core.proofs.UnitLemmas.{IsMultipleOf-add, IsMultipleOf-mul, IsMultipleOf-sub, unit_fits, up-ge, up-is_least, up-multiple}
use Rattle.flash_core.specs.declared.flash.FlashFault.{FlashFault}
use Rattle.flash_core.specs.declared.flash.FlashFault.TheVariants.{Read, Write}
use mathlib.Core.Bool.{false≢true}
use Rattle.flash_core.specs.declared.geometry.Geometry.{Geometry}
use Rattle.flash_core.specs.Calls.{CanProgram, Writes}
use Rattle.flash_core.specs.Images.{IsErased, put}
use Rattle.flash_core.specs.Runs.{Done, Ending, RunsBy, ended, fault_ending}
use Rattle.flash_core.specs.Sizes.{IsValid, size_of}
use Rattle.flash_core.specs.State.{FlashState, IsLawful}
use Rattle.flash_core.proofs.GeometryLaws.{prog_le_erase, prog_positive}
use Rattle.flash_core.proofs.ImageLaws.{IsErased-Torn, Torn-put, put-append, put-part}
use Rattle.flash_core.proofs.KeptLaws.{CanProgram-kept, told_before}
use Rattle.flash_core.proofs.RunLaws.{runs_weakened}
use Rattle.kv_model.specs.Crc.{crc_of}
use Rattle.record_core.specs.declared.header.Header.{Header}
use Rattle.record_core.specs.Header.{header_bytes, header_front}
use Rattle.record_core.specs.Record.{padded, record_header, record_payload}
use Rattle.record_core.specs.Written.{AppendsRecord, Ascends, CanWrite}
use Rattle.record_core.specs.Log.{spelling_of}
use Rattle.record_core.proofs.WriterLemmas.{record_put, record_runs}
use Rattle.record_core.proofs.RecordLemmas.{length-padded, length-record_header, length-record_payload}
use Rattle.inc_set.specs.declared.open_set.OpenSet.{OpenSet}
use Rattle.inc_set.specs.Programs.{IfDone, Programs}
use Rattle.inc_set.specs.Sets.{Appended, Holds, IsAhead, IsPlaced, done_size, header_units, payload_place, record_of}
use Rattle.inc_set.specs.Units.{IsHeld, key_units, last_units, programmed, programmed_size, rest_of, whole_size, whole_units}
use Rattle.inc_set.proofs.AscendLemmas.{once_written, IfDone-fault, IfDone-map, ascends_second, can_behind, programs_then}
use Rattle.inc_set.proofs.SetLemmas.{can_ahead, key-whole, key_then, length-programmed, programmed-whole, set_fits, waiting}
use Rattle.inc_set.proofs.UnitLemmas.{whole_and_rest, whole_units-whole}

-- padding of whole units and what stands behind them
up-behind : (prog w r : ℕ) → 0 < prog → IsMultipleOf prog w → up prog (w + r) ≡ w + up prog r
up-behind prog w r positive whole =
    let more : up prog (w + r) ≤ w + up prog r = up-is_least prog (w + r) (w + up prog r) positive (IsMultipleOf-add prog w (up prog r) whole (up-multiple prog r)) (omega (arith, up-ge prog r positive)) in
    let less : up prog r ≤ up prog (w + r) - w = up-is_least prog r (up prog (w + r) - w) positive (IsMultipleOf-sub prog (up prog (w + r)) w (up-multiple prog (w + r)) whole) (omega (arith, up-ge prog (w + r) positive)) in
    omega (arith, more, less, up-ge prog (w + r) positive)

padded-behind : (prog : ℕ) → 0 < prog → (w r : List ℕ) → IsMultipleOf prog (length w) → padded prog (w ++ r) ≡ w ++ padded prog r
padded-behind prog positive w r whole =
    let long : length (w ++ r) ≡ length w + length r = length-append w r in
    let pad : up prog (length (w ++ r)) - length (w ++ r) ≡ up prog (length r) - length r = omega (arith, long, ap (up prog) long, up-behind prog (length w) (length r) positive whole) in
    ap (λ (n : ℕ). w ++ r ++ replicate n 255) pad ∙ append_assoc w r (replicate (up prog (length r) - length r) 255)

pub padded-whole : (prog : ℕ) → 0 < prog → (xs : List ℕ) → padded prog xs ≡ whole_units prog xs ++ padded prog (rest_of prog xs)
padded-whole prog positive xs =
    ap (padded prog) (sym (whole_and_rest prog positive xs)) ∙ padded-behind prog positive (whole_units prog xs) (rest_of prog xs) (whole_units-whole prog positive xs)

-- a unit that is not full, and is padded
pub padded_unit : (prog held : ℕ) (rest : List ℕ) → length rest ≡ prog → 0 < held → held < length rest → padded prog (take held rest) ≡ take held rest ++ replicate (length rest - held) 255
padded_unit prog held rest unit some inside =
    let long : length (take held rest) ≡ held = length-take-le held rest (omega (arith, inside)) in
    let positive : 0 < prog = omega (arith, unit, inside) in
    let one : 1 * prog ≡ prog = omega arith in
    let most : up prog held ≤ prog = up-is_least prog held prog positive (subst (IsMultipleOf prog) one (IsMultipleOf-mul prog 1)) (omega (arith, unit, inside)) in
    let least : prog ≤ up prog held = omega (arith, unit_fits prog 0 (up prog held) (zero-mod prog) (up-multiple prog held) (omega (arith, some, up-ge prog held positive))) in
    let pad : up prog (length (take held rest)) - length (take held rest) ≡ length rest - held = omega (arith, ap (up prog) long, long, most, least, unit) in
    ap (λ (n : ℕ). take held rest ++ replicate n 255) pad

pub padded_nothing : (prog : ℕ) → 0 < prog → (rest : List ℕ) → padded prog (take 0 rest) ≡ []
padded_nothing prog positive rest =
    let none : up prog 0 ≡ 0 = omega (arith, up-is_least prog 0 0 positive (zero-mod prog) (omega arith)) in
    ap (λ (n : ℕ). replicate (n - 0) 255) none

-- what is left makes the payload whole
pub last_is : (prog : ℕ) → 0 < prog → (key bytes rest : List ℕ) → IsHeld rest (rest_of prog (key ++ bytes)) → record_payload prog key bytes ≡ programmed prog key bytes ++ last_units prog key (length bytes) rest
unfolding record_payload
last_is prog positive key [] rest waits =
    let key_is : key ++ [] ≡ key = append-nil key in
    let held : take ((length key + 0) % prog) rest ≡ rest_of prog key = waiting prog positive key [] rest waits ∙ ap (rest_of prog) key_is in
    ap (padded prog) key_is ∙ padded-whole prog positive key ∙ ap (λ (l : List ℕ). whole_units prog key ++ padded prog l) (sym held)
last_is prog positive key (b ∷ bytes) rest waits =
    padded-whole prog positive (key ++ b ∷ bytes)
    ∙ ap (λ (l : List ℕ). whole_units prog (key ++ b ∷ bytes) ++ padded prog l) (sym (waiting prog positive key (b ∷ bytes) rest waits))

-- a unit may be programmed
pub can_rest : (s : FlashState) (place : ℕ) (units : List ℕ) → IsValid s.geometry → length units ≡ s.geometry.prog → CanWrite s place (length units) → CanProgram s place (length units)
can_rest s place units valid long can =
    let one : 1 * s.geometry.prog ≡ s.geometry.prog = omega arith in
    record {
      place_aligned = can.aligned;
      length_aligned = subst (IsMultipleOf s.geometry.prog) (one ∙ sym long) (IsMultipleOf-mul s.geometry.prog 1);
      at_least = omega (arith, long);
      at_most = omega (arith, long, prog_le_erase s.geometry valid);
      inside = can.inside;
      erased = can.erased;
    }

pub pad_long : (held : ℕ) (rest : List ℕ) → held ≤ length rest → length (take held rest ++ replicate (length rest - held) 255) ≡ length rest
pad_long held rest inside =
    let erased : ℕ = 255 in
    length-append (take held rest) (replicate (length rest - held) 255) ∙ omega (arith, length-take-le held rest inside, length-replicate (length rest - held) erased, inside)

-- ---- what is left, behind the key

module _ (s : FlashState) (rest : List ℕ) (set : OpenSet) (placed : IsPlaced s.geometry rest set) (full : set.fed ≡ set.size) where
  abbrev pub left_over : List ℕ
  left_over = take ((length set.key + set.fed) % s.geometry.prog) rest

  left_long : length (padded s.geometry.prog left_over) ≡ up s.geometry.prog ((length set.key + set.fed) % s.geometry.prog)
  left_long =
      let prog : ℕ = s.geometry.prog in
      let positive = prog_positive s.geometry placed.valid in
      length-padded prog positive left_over
      ∙ ap (up prog) (length-take-le ((length set.key + set.fed) % prog) rest (omega (arith, mod_below (length set.key + set.fed) prog positive, placed.unit)))

  left_room : done_size s.geometry.prog set + (length (key_units s.geometry.prog set.key set.fed) + length (padded s.geometry.prog left_over)) ≤ up s.geometry.prog (length set.key + set.size)
  left_room =
      let prog : ℕ = s.geometry.prog in
      let positive = prog_positive s.geometry placed.valid in
      let n : ℕ = length set.key + set.fed in
      let same : up prog (n / prog * prog + n % prog) ≡ up prog (length set.key + set.size) = ap (up prog) (div-add-mod' n prog ∙ ap (λ (k : ℕ). length set.key + k) full) in
      omega (arith, left_long, key_then prog positive set.key set.fed, up-behind prog (n / prog * prog) (n % prog) positive (IsMultipleOf-mul prog (n / prog)), same)

  pub last_room : done_size s.geometry.prog set + length (last_units s.geometry.prog set.key set.fed rest) ≤ up s.geometry.prog (length set.key + set.size)
  last_room = omega (arith, left_room, length-append (key_units s.geometry.prog set.key set.fed) (padded s.geometry.prog left_over))

  module _ (ahead : ForSome s.image (λ image. IsAhead s.geometry image set)) (lawful : IsLawful s) (mid : FlashState)
      (first : Programs s mid (payload_place s.geometry.prog set + done_size s.geometry.prog set) (key_units s.geometry.prog set.key set.fed) Done) where
    left_behind : payload_place s.geometry.prog set + done_size s.geometry.prog set + length (key_units s.geometry.prog set.key set.fed) ≡ payload_place s.geometry.prog set + whole_size s.geometry.prog (length set.key + set.fed)
    left_behind = omega (arith, key_then s.geometry.prog (prog_positive s.geometry placed.valid) set.key set.fed)

    left_can : CanWrite s (payload_place s.geometry.prog set + done_size s.geometry.prog set) (length (key_units s.geometry.prog set.key set.fed) + length (padded s.geometry.prog left_over))
    left_can = can_ahead s rest set placed ahead (length (key_units s.geometry.prog set.key set.fed) + length (padded s.geometry.prog left_over)) left_room

    left_whole : IsMultipleOf s.geometry.prog (length (key_units s.geometry.prog set.key set.fed))
    left_whole = key-whole s.geometry.prog (prog_positive s.geometry placed.valid) set.key set.fed

    pub can_left : CanWrite mid (payload_place s.geometry.prog set + whole_size s.geometry.prog (length set.key + set.fed)) (length (padded mid.geometry.prog left_over))
    can_left =
        subst (λ (p : ℕ). CanWrite mid p (length (padded mid.geometry.prog left_over))) left_behind
        (subst (λ (g : Geometry). CanWrite mid (payload_place s.geometry.prog set + done_size s.geometry.prog set + length (key_units s.geometry.prog set.key set.fed)) (length (padded g.prog left_over))) (sym first.runs.kept.geometry)
        (can_behind (length (padded s.geometry.prog left_over)) lawful first left_whole left_can))

    pub left_pushed : {new : FlashState} {ending : Ending} → Programs mid new (payload_place s.geometry.prog set + whole_size s.geometry.prog (length set.key + set.fed)) (padded mid.geometry.prog left_over) ending
        → Programs s new (payload_place s.geometry.prog set + done_size s.geometry.prog set) (last_units s.geometry.prog set.key set.fed rest) ending
    left_pushed {new} {ending} second =
        programs_then lawful first
        (subst (λ (p : ℕ). Programs mid new p (padded s.geometry.prog left_over) ending) (sym left_behind)
        (subst (λ (g : Geometry). Programs mid new (payload_place s.geometry.prog set + whole_size s.geometry.prog (length set.key + set.fed)) (padded g.prog left_over) ending) first.runs.kept.geometry second))
        left_whole
        (omega (arith, left_can.inside, length-append (key_units s.geometry.prog set.key set.fed) (padded s.geometry.prog left_over)))

-- ---- the whole record

some_is : {X : Type 0} (x y : X) → Some x ≡ Some y → x ≡ y
some_is x y same = cc

pub header_is : (prog : ℕ) (set : OpenSet) (bytes : List ℕ) → set.size ≡ length bytes → set.crc ≡ crc_of (header_front set.flags (length set.key) set.size ++ set.key ++ bytes) → header_units prog set ≡ record_header prog set.flags set.key bytes
unfolding record_header
header_is prog set bytes size_is crc =
    let crc_is : set.crc ≡ crc_of (header_front set.flags (length set.key) (length bytes) ++ set.key ++ bytes) = crc ∙ ap (λ (n : ℕ). crc_of (header_front set.flags (length set.key) n ++ set.key ++ bytes)) size_is in
    ap (λ (h : Header). padded prog (header_bytes h)) (λ i. record { flags = set.flags; key_size = length set.key; value_size = size_is i; crc = crc_is i })

module _ (old mid : FlashState) (rest : List ℕ) (set : OpenSet) (bytes : List ℕ) (lawful : IsLawful old) (holds : Holds old.geometry old.image rest set bytes) (full : set.fed ≡ set.size) (ending : Ending)
    (last : Programs old mid (payload_place old.geometry.prog set + done_size old.geometry.prog set) (last_units old.geometry.prog set.key set.fed rest) ending) where
  abbrev prog : ℕ
  prog = old.geometry.prog

  abbrev start : ℕ
  start = payload_place old.geometry.prog set

  abbrev first : List ℕ
  first = programmed old.geometry.prog set.key bytes

  abbrev units : List ℕ
  units = last_units old.geometry.prog set.key set.fed rest

  abbrev payload : List ℕ
  payload = record_payload old.geometry.prog set.key bytes

  positive : 0 < old.geometry.prog
  positive = prog_positive old.geometry holds.placed.valid

  payload_is : payload ≡ first ++ units
  payload_is = last_is prog positive set.key bytes rest holds.has.waits ∙ ap (λ (n : ℕ). first ++ last_units prog set.key n rest) (sym holds.has.count)

  first_long : length first ≡ done_size prog set
  first_long = length-programmed prog positive set.key bytes ∙ ap (programmed_size prog (length set.key)) (sym holds.has.count)

  first_whole : IsMultipleOf prog (length first)
  first_whole = subst (IsMultipleOf prog) (sym first_long) (programmed-whole prog (length set.key) set.fed)

  behind : start + done_size prog set ≡ start + length first
  behind = ap (λ (n : ℕ). start + n) (sym first_long)

  pub size_is : set.size ≡ length bytes
  size_is = sym full ∙ holds.has.count

  payload_long : length payload ≡ up prog (length set.key + set.size)
  payload_long = length-record_payload prog positive 0 set.key bytes ∙ ap (λ (n : ℕ). up prog (length set.key + n)) (sym size_is)

  header_long : length (record_header prog set.flags set.key bytes) ≡ up prog 24
  header_long = length-record_header prog positive set.flags set.key bytes

  pub all_inside : set.at + length (record_header prog set.flags set.key bytes) + length payload ≤ size_of old.geometry
  all_inside = omega (arith, header_long, payload_long, set_fits holds.placed)

  first_put : (image : List ℕ) → old.image ≡ Some image → put image start first ≡ image
  first_put image told =
      let fits : start + length first ≤ length image = omega (arith, all_inside, header_long, ap length payload_is, length-append first units, lawful.sized image told) in
      ap (put image start) (sym (holds.has.stands image told)) ∙ put-part image start (length first) fits

  both_fit : (image : List ℕ) → old.image ≡ Some image → start + length (first ++ units) ≤ length image
  both_fit image told = omega (arith, all_inside, header_long, ap length payload_is, lawful.sized image told)

  at_header : start ≡ set.at + length (record_header prog set.flags set.key bytes)
  at_header = ap (λ (n : ℕ). set.at + n) (sym header_long)

  -- what was left of the payload makes it whole
  pub payload_runs : RunsBy old mid (Ascends prog (set.at + length (record_header prog set.flags set.key bytes)) payload) ending
  payload_runs =
      runs_weakened (Ascends prog (set.at + length (record_header prog set.flags set.key bytes)) payload)
      (λ image told call c moment.
      subst (λ (p : ℕ). Ascends prog p payload image call c) at_header
      (subst (λ (l : List ℕ). Ascends prog start l image call c) (sym payload_is)
      (ascends_second prog start first units image first_whole (both_fit image told) call c
      (subst (λ (l : List ℕ). Ascends prog (start + length first) units l call c) (sym (first_put image told))
      (subst (λ (p : ℕ). Ascends prog p units image call c) behind moment)))))
      last.runs

  pub payload_put_whole : ForSome old.image (λ image. IfDone ending (mid.image ≡ Some (put image (set.at + length (record_header prog set.flags set.key bytes)) payload)))
  payload_put_whole image told =
      let is : put image (start + done_size prog set) units ≡ put image (set.at + length (record_header prog set.flags set.key bytes)) payload =
      ap (λ (p : ℕ). put image p units) behind
      ∙ ap (λ (l : List ℕ). put l (start + length first) units) (sym (first_put image told))
      ∙ put-append image start first units (both_fit image told)
      ∙ ap (put image start) (sym payload_is)
      ∙ ap (λ (p : ℕ). put image p payload) at_header in
      IfDone-map ending (λ same. same ∙ ap Some is) (last.written image told)

  -- a payload that failed
  pub record_unfinished : (e : FlashFault) → ending ≡ fault_ending e → Appended old mid set bytes ending
  record_unfinished e is = record {
    runs = runs_weakened (AppendsRecord prog set.at (record_of set bytes)) (λ image told call c moment. inl moment) payload_runs;
    written = λ image told. subst (λ (k : Ending). IfDone k (mid.image ≡ Some (put image set.at (spelling_of prog (record_of set bytes))))) (sym is) (IfDone-fault _ e);
  }

-- behind it the header's range is still erased
pub can_header : (old mid : FlashState) (rest : List ℕ) (set : OpenSet) → IsLawful old → IsPlaced old.geometry rest set → ForSome old.image (λ image. IsAhead old.geometry image set) → set.fed ≡ set.size
    → (units : List ℕ) → done_size old.geometry.prog set + length units ≤ up old.geometry.prog (length set.key + set.size) → Programs old mid (payload_place old.geometry.prog set + done_size old.geometry.prog set) units Done → CanProgram mid set.at (up mid.geometry.prog 24)
can_header old mid rest set lawful placed ahead full units within last =
    let prog : ℕ = old.geometry.prog in
    let kept = last.runs.kept in
    let positive = prog_positive old.geometry placed.valid in
    let inside : set.at + (up prog 24 + up prog (length set.key + set.size)) ≤ size_of old.geometry = set_fits placed in
    let of_old : CanProgram old set.at (up prog 24) = record {
      place_aligned = placed.aligned;
      length_aligned = up-multiple prog 24;
      at_least = omega (arith, unit_fits prog 0 (up prog 24) (zero-mod prog) (up-multiple prog 24) (omega (arith, up-ge prog 24 positive)));
      at_most = omega (arith, placed.valid.header_fits);
      inside = omega (arith, inside);
      erased = λ image told. (ahead image told).header;
    } in
    subst (λ (g : Geometry). CanProgram mid set.at (up g.prog 24)) (sym kept.geometry)
    (CanProgram-kept kept (λ now told_now.
    let was = told_before kept told_now in
    let place : ℕ = payload_place prog set + done_size prog set in
    let fits : place + length units ≤ length was.0 = omega (arith, inside, within, lawful.sized was.0 was.1) in
    let is : put was.0 place units ≡ now = some_is _ now (sym (last.written was.0 was.1) ∙ told_now) in
    subst (λ (l : List ℕ). IsErased l set.at (up prog 24)) is
    (IsErased-Torn place (length units) was.0 (put was.0 place units) set.at (up prog 24) (Torn-put was.0 place units fits) (inl (omega arith)) (of_old.erased was.0 was.1))) of_old)

-- the header's program, behind the whole payload
pub record_finished : {T : Type 0} (old mid new : FlashState) (rest : List ℕ) (set : OpenSet) (bytes : List ℕ) → IsLawful old → IsLawful mid → Holds old.geometry old.image rest set bytes → set.fed ≡ set.size
    → Programs old mid (payload_place old.geometry.prog set + done_size old.geometry.prog set) (last_units old.geometry.prog set.key set.fed rest) Done
    → (result : Result T FlashFault) → Writes mid new set.at (header_units mid.geometry.prog set) result → Appended old new set bytes (ended result)
record_finished {T} old mid new rest set bytes lawful lawful_mid holds full last result wrote =
    let prog : ℕ = old.geometry.prog in
    let header : List ℕ = record_header prog set.flags set.key bytes in
    let payload : List ℕ = record_payload prog set.key bytes in
    let size : set.size ≡ length bytes = sym full ∙ holds.has.count in
    let is : header_units mid.geometry.prog set ≡ record_header prog set.flags set.key bytes =
    ap (λ (g : Geometry). header_units g.prog set) last.runs.kept.geometry ∙ header_is prog set bytes size holds.has.crc in
    let wrote_header : Writes mid new set.at (record_header prog set.flags set.key bytes) result = subst (λ (l : List ℕ). Writes mid new set.at l result) is wrote in
    let inside = all_inside old mid rest set bytes lawful holds full Done last in
    let whole = payload_put_whole old mid rest set bytes lawful holds full Done last in
    record {
      runs = record_runs prog set.at header payload lawful_mid inside (payload_runs old mid rest set bytes lawful holds full Done last) whole result wrote_header;
      written = λ image told. once_written _ result (record_put old mid new prog set.at set.flags set.key bytes lawful inside whole result wrote_header image told);
    }

-- a fault, handed on
pub appended_handed : {U : Type 0} (old new : FlashState) (set : OpenSet) (bytes : List ℕ) (e : FlashFault) (r : Result U FlashFault) → IsErr r → IfErr r (λ f. f ≡ Write) → e ≡ Write → Appended old new set bytes (fault_ending e) → Appended old new set bytes (ended r)
appended_handed old new set bytes e (Ok x) is same write appended = absurd (false≢true is)
appended_handed {U} old new set bytes e (Err Write) is same write appended = subst (λ (f : FlashFault). Appended old new set bytes (fault_ending f)) write appended
appended_handed old new set bytes e (Err Read) is same write appended = cc same
