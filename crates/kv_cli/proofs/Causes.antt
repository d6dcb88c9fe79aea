-- Why reading stopped, in the words of the causes.
use Rattle.std.proofs.Common.{◌≡◌, ℕ, ◌<◌, ◌≤◌, inl, inr, Bool, true, false, All, List, [], ◌∷◌, ◌++◌, length, ap, refl, sym, subst, ◌∙◌, arith}
use Rattle.std.proofs.lemmas.List.Elements.{All-cons, All-nil}
use Rattle.std.specs.Prelude.{◌≢◌, Vec, Option, Some, None, IsSomeAnd, MatchBool, Result, Ok, Err, MatchResult, IfErr, IfOk, IfSome}
use Rattle.base_core.proofs.CountLemmas.{Rose-since, Rose-until}
use Rattle.flash_core.specs.declared.geometry.Geometry.{Geometry}
use Rattle.flash_core.specs.Sizes.{size_of}
use Rattle.kv_host.specs.Contents.{HostContents, file_at}
use Rattle.kv_host.specs.Refusal.{ReadRefusal}
use Rattle.kv_host.specs.declared.interface.HostFault.{HostFault}
use Rattle.kv_host.specs.declared.interface.HostFault.TheVariants as fault
use Rattle.script_core.specs.declared.line.Line.{Line}
use Rattle.script_core.specs.Grammar.{CutsNoRollback, IsGood, IsScript, Read, is_skipped, lines_of}
use Rattle.kv_cli.specs.declared.refusal.File.TheVariants as file
use Rattle.kv_cli.specs.declared.refusal.Refusal.{Refusal}
use Rattle.kv_cli.specs.declared.refusal.Refusal.TheVariants as refusal
use Rattle.kv_cli.specs.declared.stop.Stop.{Stop}
use Rattle.kv_cli.specs.declared.stop.Stop.TheVariants as stop
use Rattle.kv_cli.specs.Inputs.{HasImage, script_limit, image_limit, IsReadable, plain_replay}
use Rattle.kv_cli.specs.Outcomes.{Around, Blames, IsCounted, StopsAtFile, StopsAtImage, StopsAtScript, StopsAtSize, StopsAtText, StopsFor, stop_of}
use Rattle.kv_cli.specs.Refusals.{HasSomeScript, IsAbsent, IsCause, IsOver, IsRead}
use Rattle.kv_cli.specs.Asked.{Asked}

-- a host before and behind a call; what it tells behind it is no part of a cause
abbrev pub seen : Option HostContents → ℕ → ℕ → Around
seen told before after = record { told = told; left = None; faults = before; later = after }

over_in : (asked : Asked) (contents : HostContents) (name : List ℕ) (limit seen : ℕ) (found : Option (List ℕ)) → file_at name contents ≡ found → IsRead asked contents name limit → limit < seen
    → IsSomeAnd found (λ bytes. seen ≤ length bytes) → IsOver asked contents name limit
over_in asked contents name limit seen (Some bytes) there is_read above longer = record { is_read = is_read; bytes = bytes; there = there; over = omega (arith, above, longer) }
over_in asked contents name limit seen None there is_read above longer = absurd longer

over_read : (asked : Asked) (contents : HostContents) (name : List ℕ) (limit seen : ℕ) → IsRead asked contents name limit → limit < seen
    → IsSomeAnd (file_at name contents) (λ bytes. seen ≤ length bytes) → IsOver asked contents name limit
over_read asked contents name limit seen is_read above longer = over_in asked contents name limit seen (file_at name contents) refl is_read above longer

script_fault : (told : Option HostContents) (name : List ℕ) (before after : ℕ) (why : HostFault) → ReadRefusal told name script_limit before after why
    → StopsAtScript name (seen told before after) (stop_of file.Script why)
script_fault told name before after fault.Fault why = why
script_fault told name before after fault.Memory why = tt
script_fault None name before after (fault.TooLong seen) why = why.1
script_fault None name before after fault.Absent why = why
script_fault (Some contents) name before after (fault.TooLong seen) why =
    λ asked is. subst (λ (n : List ℕ). IsOver asked contents n script_limit) (sym is) (over_read asked contents name script_limit seen (inl (sym is, refl)) why.0 why.1)
script_fault (Some contents) name before after fault.Absent why =
    λ asked is. subst (IsAbsent asked contents) (sym is) (record { limit = script_limit; is_read = inl (sym is, refl); absent = why })

image_fault : (asked : Asked) (told : Option HostContents) (before after : ℕ) (why : HostFault) → ReadRefusal told asked.names.primary image_limit before after why
    → StopsAtImage asked (seen told before after) (stop_of file.Primary why)
image_fault asked told before after fault.Fault why = why
image_fault asked told before after fault.Memory why = tt
image_fault asked None before after (fault.TooLong seen) why = why.1
image_fault asked None before after fault.Absent why = why
image_fault asked (Some contents) before after (fault.TooLong seen) why =
    λ script. over_read asked contents asked.names.primary image_limit seen (inr (script, refl, refl)) why.0 why.1
image_fault asked (Some contents) before after fault.Absent why =
    λ script. record { limit = image_limit; is_read = inr (script, refl, refl); absent = why }

pub script_stops : (told : Option HostContents) (name : List ℕ) (before after : ℕ) (stop : Stop) → StopsAtFile file.Script name (seen told before after) stop
    → StopsAtScript name (seen told before after) stop
script_stops told name before after stop (why, refused, is) = subst (StopsAtScript name (seen told before after)) (sym is) (script_fault told name before after why refused)

pub image_stops : (asked : Asked) (told : Option HostContents) (before after : ℕ) (stop : Stop) → StopsAtFile file.Primary asked.names.primary (seen told before after) stop
    → StopsAtImage asked (seen told before after) stop
image_stops asked told before after stop (why, refused, is) = subst (StopsAtImage asked (seen told before after)) (sym is) (image_fault asked told before after why refused)

-- a text that is no script
text_stops : (told : Option HostContents) (name text : List ℕ) (before after : ℕ) (stop : Stop) → StopsAtText text stop → IfSome told (λ contents. IsReadable script_limit name contents text)
    → StopsAtScript name (seen told before after) stop
text_stops None name text before after (stop.Refused (refusal.BadLine line)) why readable = tt
text_stops (Some contents) name text before after (stop.Refused (refusal.BadLine line)) why readable =
    λ asked is. record { text = text; readable = subst (λ (n : List ℕ). IsReadable script_limit n contents text) (sym is) readable; bad = why }
text_stops told name text before after (stop.Refused (refusal.WrongSize size)) why readable = absurd why
text_stops told name text before after (stop.Refused (refusal.Absent file)) why readable = absurd why
text_stops told name text before after (stop.Refused (refusal.TooLong file)) why readable = absurd why
text_stops told name text before after stop.Fault why readable = absurd why
text_stops told name text before after stop.Memory why readable = tt

pub parse_stops : {T : Type 0} (P : T → Type 0) (told : Option HostContents) (name text : List ℕ) (before after : ℕ) (result : Result T Stop) → MatchResult result P (StopsAtText text)
    → IfSome told (λ contents. IsReadable script_limit name contents text) → IfErr result (StopsAtScript name (seen told before after))
parse_stops P told name text before after (Ok script) h readable = tt
parse_stops P told name text before after (Err stop) h readable = text_stops told name text before after stop h readable

-- ---- an image of the size of its geometry

abbrev IsSized : {A : Type 0} → Geometry → Vec ℕ A → Result (Vec ℕ A) Stop → Type 0
IsSized g image result = MatchResult result (λ same. (same ≡ image) × (length image.items ≡ size_of g)) (StopsAtSize g image.items)

abbrev IsPrimary : Asked → List ℕ → HostContents → Type 0
IsPrimary asked image contents = IsReadable image_limit asked.names.primary contents image

pub sized_length : {A : Type 0} (g : Geometry) (image : Vec ℕ A) (result : Result (Vec ℕ A) Stop) → IsSized g image result → IfOk result (λ i. length i.items ≡ size_of g)
sized_length g image (Ok same) is = ap (λ i. length i.items) is.0 ∙ is.1
sized_length g image (Err stop) is = tt

image_in : (asked : Asked) (told : Option HostContents) (image : List ℕ) → length image ≡ size_of asked.geometry → IfSome told (IsPrimary asked image)
    → IfSome told (λ contents. HasImage asked contents image)
image_in asked None image sized readable = tt
image_in asked (Some contents) image sized readable = record { readable = readable; sized = sized }

pub sized_image : {A : Type 0} (asked : Asked) (told : Option HostContents) (image : Vec ℕ A) (result : Result (Vec ℕ A) Stop) → IsSized asked.geometry image result
    → IfSome told (IsPrimary asked image.items) → IfOk result (λ i. IfSome told (λ contents. HasImage asked contents i.items))
sized_image asked told image (Ok same) is readable =
    subst (λ i. IfSome told (λ contents. HasImage asked contents i.items)) (sym is.0) (image_in asked told image.items is.1 readable)
sized_image asked told image (Err stop) is readable = tt

wrong_size : (asked : Asked) (told : Option HostContents) (before after : ℕ) (image : List ℕ) → length image ≢ size_of asked.geometry → IfSome told (IsPrimary asked image)
    → StopsAtImage asked (seen told before after) (stop.Refused (refusal.WrongSize (length image)))
wrong_size asked None before after image wrong readable = tt
wrong_size asked (Some contents) before after image wrong readable =
    λ script. record { script = script; image = image; readable = readable; size_is = refl; wrong = wrong }

pub sized_stops : {A : Type 0} (asked : Asked) (told : Option HostContents) (before after : ℕ) (image : Vec ℕ A) (result : Result (Vec ℕ A) Stop) → IsSized asked.geometry image result
    → IfSome told (IsPrimary asked image.items) → IfErr result (StopsAtImage asked (seen told before after))
sized_stops asked told before after image (Ok same) is readable = tt
sized_stops asked told before after image (Err why) is readable =
    subst (StopsAtImage asked (seen told before after)) (sym is.0) (wrong_size asked told before after image.items is.1 readable)

-- ---- a refusal for the image comes behind a script

counted_since : (early before now : ℕ) (why : Refusal) → early ≤ before → IsCounted before now why → IsCounted early now why
counted_since early before now (refusal.BadLine line) le counted = tt
counted_since early before now (refusal.WrongSize size) le counted = tt
counted_since early before now (refusal.Absent file) le counted = Rose-since le counted
counted_since early before now (refusal.TooLong file) le counted = Rose-since le counted

counted_until : (before now late : ℕ) (why : Refusal) → now ≤ late → IsCounted before now why → IsCounted before late why
counted_until before now late (refusal.BadLine line) le counted = tt
counted_until before now late (refusal.WrongSize size) le counted = tt
counted_until before now late (refusal.Absent file) le counted = Rose-until counted le
counted_until before now late (refusal.TooLong file) le counted = Rose-until counted le

abbrev BehindScript : Asked → HostContents → Refusal → Type 0
BehindScript asked contents why = HasSomeScript asked contents → IsCause asked contents why

refused_behind : (asked : Asked) (told : Option HostContents) (early before after : ℕ) (why : Refusal) → early ≤ before → IfSome told (HasSomeScript asked)
    → Blames (BehindScript asked) (seen told before after) why → Blames (IsCause asked) (seen told early after) why
refused_behind asked None early before after why le script stops = counted_since early before after why le stops
refused_behind asked (Some contents) early before after why le script stops = stops script

-- the count may have risen before the image was read
pub behind_script : (asked : Asked) (told : Option HostContents) (early before after : ℕ) (stop : Stop) → early ≤ before → IfSome told (HasSomeScript asked)
    → StopsAtImage asked (seen told before after) stop → StopsFor asked (seen told early after) stop
behind_script asked told early before after (stop.Refused why) le script stops = refused_behind asked told early before after why le script stops
behind_script asked told early before after stop.Fault le script stops = Rose-since le stops
behind_script asked told early before after stop.Memory le script stops = stops

abbrev ForName : List ℕ → HostContents → Refusal → Type 0
ForName name contents why = (asked : Asked) → asked.names.script ≡ name → IsCause asked contents why

refused_at : (asked : Asked) (told : Option HostContents) (before after : ℕ) (why : Refusal)
    → Blames (ForName asked.names.script) (seen told before after) why → Blames (IsCause asked) (seen told before after) why
refused_at asked None before after why stops = stops
refused_at asked (Some contents) before after why stops = stops asked refl

pub at_script : (asked : Asked) (told : Option HostContents) (before after : ℕ) (stop : Stop) → StopsAtScript asked.names.script (seen told before after) stop
    → StopsFor asked (seen told before after) stop
at_script asked told before after (stop.Refused why) stops = refused_at asked told before after why stops
at_script asked told before after stop.Fault stops = stops
at_script asked told before after stop.Memory stops = stops

refused_until : (asked : Asked) (told : Option HostContents) (before after late : ℕ) (why : Refusal) → after ≤ late
    → Blames (IsCause asked) (seen told before after) why → Blames (IsCause asked) (seen told before late) why
refused_until asked None before after late why le stops = counted_until before after late why le stops
refused_until asked (Some contents) before after late why le stops = stops

-- it still is why when the refusal was printed, or printing it failed
pub stops_until : (asked : Asked) (told : Option HostContents) (before after late : ℕ) (stop : Stop) → after ≤ late
    → StopsFor asked (seen told before after) stop → StopsFor asked (seen told before late) stop
stops_until asked told before after late (stop.Refused why) le stops = refused_until asked told before after late why le stops
stops_until asked told before after late stop.Fault le stops = Rose-until stops le
stops_until asked told before after late stop.Memory le stops = stops

-- ---- no line of a plain script cuts another chip

abbrev Plain : Line → Type 0
Plain line = CutsNoRollback line.act

unsecured : (line : Line) → MatchBool plain_replay.secure (Unit {0}) (CutsNoRollback line.act) → CutsNoRollback line.act
unsecured line allowed = allowed

each_one : (text : List ℕ) (texts later : List (List ℕ)) (lines : List Line) (skipped : Bool)
    → MatchBool skipped (Read plain_replay texts later lines)
    ((read : Line) × (others : List Line) × (lines ≡ read ∷ others) × IsGood plain_replay (texts ++ later) text read × Read plain_replay texts later others)
    → ((ls : List Line) → Read plain_replay texts later ls → All Plain ls) → All Plain lines
each_one text texts later lines true h rest = rest lines h
each_one text texts later lines false (read, others, is, good, h) rest = subst (All Plain) (sym is) (All-cons Plain read others (unsecured read good.1.1) (rest others h))

each_line : (texts later : List (List ℕ)) (lines : List Line) → Read plain_replay texts later lines → All Plain lines
each_line [] later lines h = subst (All Plain) (sym h) (All-nil Plain)
each_line (text ∷ texts) later lines h = each_one text texts later lines (is_skipped text) h (λ ls r. each_line texts later ls r)

cuts_primary : (text : List ℕ) (lines : List Line) → IsScript plain_replay text lines → All Plain lines
cuts_primary text lines script = each_line (lines_of text) [] lines script.reads

pub plain_cuts : (text : List ℕ) (result : Result (List Line) Stop) → MatchResult result (IsScript plain_replay text) (StopsAtText text) → IfOk result (All Plain)
plain_cuts text (Ok lines) script = cuts_primary text lines script
plain_cuts text (Err stop) why = tt
