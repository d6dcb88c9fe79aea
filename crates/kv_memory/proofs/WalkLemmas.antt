-- What the items of a store take fits in 32 bits.
use Rattle.std.proofs.Common.{◌≡◌, ℕ, suc, zero, ◌+◌, ◌-◌, ◌<◌, ◌≤◌, List, [], ◌∷◌, length, map, drop, get_or, sym, ◌∙◌, ap, arith}
use Rattle.std.proofs.lemmas.List.{drop_more}
use Rattle.base_core.specs.Sizes.{record_size}
use Rattle.base_core.specs.Units.{up}
use Rattle.base_core.proofs.UnitLemmas.{up-below, up-ge}
use Rattle.kv_model.specs.Sizes.{used_by}
use Rattle.kv_memory.specs.declared.entries.Item.{Item}
use Rattle.kv_memory.specs.EntryOf.{pair_of}

pub record_fits : (prog n : ℕ) → 0 < prog → prog ≤ 4096 → n < 2147483648 → up prog 24 + up prog n < 4294967296
record_fits prog n positive unit small = omega (arith, up-below prog 24 (omega arith), up-below prog n (omega arith))

pub payload_within : (prog key_size value_size : ℕ) → 0 < prog → key_size + value_size ≤ record_size prog key_size value_size
payload_within prog key_size value_size positive = omega (arith, up-ge prog (key_size + value_size) (omega arith))

module _ (prog : ℕ) where
  abbrev pub taken : List Item → ℕ
  taken items = used_by prog (map pair_of items)

  abbrev pub item_size : Item → ℕ
  item_size item = record_size prog (length item.key) (length item.value)

  rest_within : (n : ℕ) (items : List Item) → taken (drop n items) ≤ taken items
  rest_within zero items = omega arith
  rest_within (suc n) [] = omega arith
  rest_within (suc n) (item ∷ items) = omega (arith, rest_within n items)

  pub one_within : (items : List Item) (at : ℕ) (item : Item) → 0 < at → at ≤ length items → item ≡ get_or items (at - 1) item
      → item_size item + taken (drop at items) ≤ taken items
  one_within items at item some within is =
      let there : drop (at - 1) items ≡ get_or items (at - 1) item ∷ drop ((at - 1) + 1) items = drop_more items (at - 1) item (omega arith) in
      let here : drop (at - 1) items ≡ item ∷ drop at items =
      there ∙ ap (λ (x : Item). x ∷ drop ((at - 1) + 1) items) (sym is) ∙ ap (λ (n : ℕ). item ∷ drop n items) (omega arith) in
      omega (arith, rest_within (at - 1) items, ap taken here)
