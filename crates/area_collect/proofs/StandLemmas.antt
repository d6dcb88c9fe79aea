-- What is read where records stand.
use Rattle.std.proofs.Common.{◌≡◌, ℕ, ◌+◌, ◌≤◌, List, [], ◌∷◌, ◌++◌, length, take, drop, refl, sym, ◌∙◌, ap, arith, Some}
use Rattle.std.proofs.Math.Seq.{take-append_seam, drop-append_seam}
use Rattle.base_core.specs.Units.{up}
use Rattle.flash_core.specs.Images.{part}
use Rattle.flash_core.specs.State.{FlashState}
use Rattle.flash_core.proofs.ImageLaws.{part-append}
use Rattle.kv_model.specs.Write.{Write}
use Rattle.record_core.specs.Log.{IsRecordAt, extent}
use Rattle.record_core.specs.Record.{header_of}
use Rattle.record_core.proofs.HeaderLemmas.{SameSizes, same_sizes}
use Rattle.record_core.proofs.LogLemmas.{header_at, key_at, value_at}
use Rattle.ram_table.specs.declared.table.Entry.{Entry}
use Rattle.area_collect.specs.declared.entries.Route.{Route}
use Rattle.area_collect.specs.Copies.{AreRead, IsReadAt, room_for}
use Rattle.area_collect.specs.Collection.{StandAt}

module _ (s : FlashState) (positive : 1 ≤ s.geometry.prog) (image : List ℕ) (told : s.image ≡ Some image) where
  -- it is the record that stands there
  pub read_stands : (place room : ℕ) (r x : Write) → IsReadAt s place room r → IsRecordAt s.geometry.prog image place x → r ≡ x
  read_stands place room r x read stands =
      let prog : ℕ = s.geometry.prog in
      let start : ℕ = place + up prog 24 in
      let sizes : SameSizes (header_of r.flags r.key r.value) (header_of x.flags x.key x.value) =
      same_sizes _ _ read.valid stands.valid_header (read.header.told image told ∙ header_at prog positive image place x stands) in
      let at : start + length x.key ≡ place + (up prog 24 + length x.key) = omega arith in
      let payload : r.key ++ r.value ≡ x.key ++ x.value =
      read.payload.told image told
      ∙ ap (λ (n : ℕ). part image start (n + length r.value)) sizes.key_size
      ∙ ap (λ (n : ℕ). part image start (length x.key + n)) sizes.value_size
      ∙ part-append image start (length x.key) (length x.value)
      ∙ ap (λ (l : List ℕ). l ++ part image (start + length x.key) (length x.value)) (key_at prog positive image place x stands)
      ∙ ap (λ (p : ℕ). x.key ++ part image p (length x.value)) at
      ∙ ap (λ (l : List ℕ). x.key ++ l) (value_at prog positive image place x stands) in
      let key : r.key ≡ x.key =
      sym (take-append_seam r.key r.value) ∙ ap (λ (n : ℕ). take n (r.key ++ r.value)) sizes.key_size ∙ ap (take (length x.key)) payload ∙ take-append_seam x.key x.value in
      let value : r.value ≡ x.value =
      sym (drop-append_seam r.key r.value) ∙ ap (λ (n : ℕ). drop n (r.key ++ r.value)) sizes.key_size ∙ ap (drop (length x.key)) payload ∙ drop-append_seam x.key x.value in
      λ i. record { flags = sizes.flags i; key = key i; value = value i }

  pub all_read_stand : (route : Route) (end limit : ℕ) (es : List Entry) (rs xs : List Write) → AreRead s route end es rs → StandAt s.geometry.prog image limit es xs → rs ≡ xs
  all_read_stand route end limit [] [] [] read stand = refl
  all_read_stand route end limit [] [] (x ∷ xs) read stand = absurd stand
  all_read_stand route end limit [] (r ∷ rs) xs read stand = absurd read
  all_read_stand route end limit (e ∷ es) [] xs read stand = absurd read
  all_read_stand route end limit (e ∷ es) (r ∷ rs) [] read stand = absurd stand
  all_read_stand route end limit (e ∷ es) (r ∷ rs) (x ∷ xs) read stand =
      let first : r ≡ x = read_stands e.offset (room_for route e.offset end) r x read.0 stand.0 in
      let rest : rs ≡ xs = all_read_stand route (end + extent s.geometry.prog r) limit es rs xs read.1 stand.2 in
      λ i. first i ∷ rest i
