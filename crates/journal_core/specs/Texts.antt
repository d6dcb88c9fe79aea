-- The printed form of replies.
use Rattle.std.specs.Prelude.{ℕ, Bool, List, [], ◌∷◌, ◌++◌, if◌then◌else◌, codes}
use Rattle.std.specs.Int.{w32, to_be_bytes}
use Rattle.std.specs.List.{flat_map}
use Rattle.std.specs.Fmt.{decimal}
use Rattle.hex.specs.Hex.{encode_lower}
use Rattle.kv_model.specs.declared.error.KvError.{KvError}
use Rattle.kv_model.specs.declared.error.KvError.TheVariants.{MediaFull, Busy, Corrupt}
use Rattle.kv_model.specs.declared.call.Reply.{Reply}
use Rattle.kv_model.specs.declared.call.Reply.TheVariants.{Done, Value, Facts, Found, End, Refused}
use Rattle.kv_model.specs.declared.call.Entry.{Entry}
use Rattle.kv_model.specs.Flags.{is_write_once, is_confidential, is_replay_protected}
use Rattle.kv_model.specs.Errors.{error_number, error_text}

-- a dash stands for nothing
abbrev pub or_dash : List ℕ → List ℕ
or_dash [] = codes "-"
or_dash (b ∷ bytes) = b ∷ bytes

abbrev pub hex_text : List ℕ → List ℕ
hex_text [] = codes "-"
hex_text (b ∷ bytes) = encode_lower (b ∷ bytes)

abbrev pub letter_if : Bool → List ℕ → List ℕ
letter_if set letter = if set then letter else []

abbrev pub flags_text : ℕ → List ℕ
flags_text flags =
    or_dash (letter_if (is_write_once flags) (codes "w") ++ letter_if (is_confidential flags) (codes "c") ++ letter_if (is_replay_protected flags) (codes "r"))

-- eight digits
abbrev pub crc_text : ℕ → List ℕ
crc_text crc = encode_lower (to_be_bytes w32 crc)

-- what stands behind a refusal's text
abbrev pub details_text : KvError → List ℕ
details_text (MediaFull need room) = codes " need " ++ decimal need ++ codes " room " ++ decimal room
details_text (Busy owner) = codes " " ++ decimal owner
details_text (Corrupt stored computed) = codes " " ++ crc_text stored ++ codes " " ++ crc_text computed
details_text error = []

abbrev pub refusal_text : KvError → List ℕ
refusal_text error = codes "error " ++ decimal (error_number error) ++ codes " " ++ error_text error ++ details_text error

abbrev pub reply_text : Reply → List ℕ
reply_text Done = codes "ok"
reply_text (Value bytes) = codes "ok " ++ hex_text bytes
reply_text (Facts size flags) = codes "ok " ++ decimal size ++ codes " " ++ flags_text flags.bits
reply_text (Found key) = codes "key " ++ key
reply_text End = codes "end"
reply_text (Refused error) = refusal_text error

-- the client, the number of its call, the reply, and a line feed
unfoldable pub entry_line : Entry → List ℕ
entry_line entry = decimal entry.who ++ codes " " ++ decimal entry.index ++ codes " " ++ reply_text entry.reply ++ codes "\n"

abbrev pub text_of : List Entry → List ℕ
text_of entries = flat_map entry_line entries
