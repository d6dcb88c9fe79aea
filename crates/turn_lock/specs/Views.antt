-- What a pass knows, and how the calls change it.
use Rattle.std.specs.Prelude.{ℕ, ◌+◌, ◌-◌, ltb, List, [], ◌∷◌, ◌++◌, length, Option, Some, None, if◌then◌else◌}
use Rattle.kv_model.specs.declared.call.Entry.{Entry}
use Rattle.kv_model.specs.Opening.{Opening}
use Rattle.turn_lock.specs.Books.{Book, no_opening}
use Rattle.turn_lock.specs.declared.view.View.{View}
use Rattle.turn_lock.specs.declared.view.Phase.{Phase}
use Rattle.turn_lock.specs.declared.view.Phase.TheVariants.{Idle, Taken, Loaded, Spent}

-- all parts together
abbrev pub ALL : ℕ
ALL = 65536

-- a pass under a number that owns nothing
abbrev pub newcomer : ℕ → Opening → List Entry → ℕ → View
newcomer who opening seen parts = record {
  who = who;
  opening = opening;
  seen = seen;
  shorter = [];
  own = [];
  parts = parts;
  marks = [];
  phase = Idle;
  noted = [];
  quitter = None;
  had = 0;
  found = [];
}

abbrev pub first_view : Opening → View
first_view opening = newcomer 0 opening [] ALL

abbrev pub spent : View
spent = record {
  who = 0;
  opening = no_opening;
  seen = [];
  shorter = [];
  own = [];
  parts = 0;
  marks = [];
  phase = Spent;
  noted = [];
  quitter = None;
  had = 0;
  found = [];
}

-- an exchange found this in place of 0
abbrev pub missed : ℕ → View → View
missed n v = record v { found = v.found ++ n ∷ [] }

-- exchanges found these in place of 0
abbrev pub with_found : List ℕ → View → View
with_found found v = record v { found = v.found ++ found }

-- an exchange found 0, and the slot had a value with this history and first quitter
abbrev pub taken : Book → View → View
taken book v = record v { phase = Taken; noted = book.entries; quitter = book.quitter; had = v.had + 1 }

abbrev pub loaded : View → View
loaded v = record v { phase = Loaded; seen = v.noted }

abbrev pub in_phase : Phase → View → View
in_phase phase v = record v { phase = phase }

-- a history with one entry more gives its last position to the pass
abbrev pub own_after : View → List Entry → List ℕ
own_after v entries = if ltb (length v.noted) (length entries) then v.own ++ length entries ∷ [] else v.own

-- the number of a caller that is now the first to quit becomes a mark
abbrev pub marks_after : Option ℕ → Option ℕ → List ℕ → List ℕ
marks_after None (Some who) marks = marks ++ who ∷ []
marks_after None None marks = marks
marks_after (Some first) quitter marks = marks

abbrev pub noted : Book → View → View
noted book v = record v {
  seen = book.entries;
  noted = book.entries;
  quitter = book.quitter;
  own = own_after v book.entries;
  marks = marks_after v.quitter book.quitter v.marks;
}

-- what split leaves to the old pass, and what it gives to the new one
abbrev pub less_parts : ℕ → View → View
less_parts parts v = record v { parts = v.parts - parts }

abbrev pub newcomer_beside : View → ℕ → ℕ → View
newcomer_beside v who parts = newcomer who v.opening v.seen parts

-- the longer of two lists, the first where they are as long
abbrev pub longer : List Entry → List Entry → List Entry
longer xs ys = if ltb (length xs) (length ys) then ys else xs

abbrev pub shorter_of : List Entry → List Entry → List Entry
shorter_of xs ys = if ltb (length xs) (length ys) then xs else ys

-- two views in one, before it is known that their lists are prefixes of one
abbrev pub both : View → View → View
both v w = record v {
  seen = longer v.seen w.seen;
  shorter = shorter_of v.seen w.seen;
  own = v.own ++ w.own;
  parts = v.parts + w.parts;
  marks = v.marks ++ w.marks;
}

abbrev pub settled : View → View
settled v = record v { shorter = [] }

abbrev pub joined : View → View → View
joined v w = settled (both v w)

-- the whole of what two passes have seen, in place of its own
abbrev pub with_seen : List Entry → View → View
with_seen seen v = record v { seen = seen; shorter = [] }
