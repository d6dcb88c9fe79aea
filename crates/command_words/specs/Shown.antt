-- What the values of the code show.
use Rattle.std.specs.Prelude.{ℕ, List, [], ◌∷◌, map, Option, Some, None}
use Rattle.std.specs.Rc.{rc_str_bytes}
use denote.Ref.{Bor}
use Rattle.command_words.specs.declared.forms.Form as declared_form
use Rattle.command_words.specs.declared.forms.Form.TheVariants as form
use Rattle.command_words.specs.declared.items.Item as declared_item
use Rattle.command_words.specs.declared.items.Item.TheVariants as item
use Rattle.command_words.specs.declared.items.Items as declared_items
use Rattle.command_words.specs.declared.items.Words as declared_words
use Rattle.command_words.specs.declared.session.Names as declared_names
use Rattle.command_words.specs.declared.session.Session as declared_session
use Rattle.command_words.specs.declared.tools.OneImage as declared_image
use Rattle.command_words.specs.declared.tools.Drawing as declared_drawing
use Rattle.command_words.specs.declared.command.Command as declared_command
use Rattle.command_words.specs.declared.command.Command.TheVariants as command
use Rattle.command_words.specs.Commands.{Names, Session, OneImage, Drawing, Command, Run, Replay, Use, Generate}
use Rattle.command_words.specs.Items.{Form, Plain, Stated, Awaiting, Unknown, Item, Word, Given, Wrong, items_of}

abbrev pub form_in : declared_form.Form → Form
form_in form.Plain = Plain
form_in (form.Given option value) = Stated option value.now
form_in (form.Awaiting option) = Awaiting option
form_in form.Unknown = Unknown

abbrev pub item_in : declared_item.Item → Item
item_in (item.Word word) = Word word.now
item_in (item.Given option value) = Given option value.now
item_in item.Wrong = Wrong

abbrev pub items_left : declared_items.Items → List Item
items_left items = items_of items.options.now (map rc_str_bytes items.rest.now)

abbrev pub items_in : declared_words.Words → List Item
items_in words = items_of words.options.now (map rc_str_bytes words.words.now)

-- a word that is there or not
abbrev pub value_in : Option (Bor (List ℕ)) → Option (List ℕ)
value_in None = None
value_in (Some value) = Some value.now

abbrev pub listed : Option (Bor (List ℕ)) → List (List ℕ)
listed None = []
listed (Some value) = value.now ∷ []

abbrev pub names_in : declared_names.Names → Names
names_in names = record { primary = names.primary.now; rollback = names.rollback.now; script = names.script.now }

abbrev pub session_in : declared_session.Session → Session
session_in s = record {
  names = names_in s.names;
  geometry = s.geometry;
  rollback_geometry = s.rollback_geometry;
  root_key = s.root_key;
  first_vector = s.first_vector;
  hash_bits = s.hash_bits;
  cut = s.cut;
  secure = s.secure;
  by_client = s.by_client;
}

abbrev pub image_in : declared_image.OneImage → OneImage
image_in i = record { file = i.file.now; geometry = i.geometry; hash_bits = i.hash_bits }

abbrev pub drawing_in : declared_drawing.Drawing → Drawing
drawing_in d = record { seed = d.seed; clients = d.clients; calls = d.calls }

abbrev pub command_in : declared_command.Command → Command
command_in (command.Run session) = Run (session_in session)
command_in (command.Replay session) = Replay (session_in session)
command_in (command.Use tool image) = Use tool (image_in image)
command_in (command.Generate drawing) = Generate (drawing_in drawing)
