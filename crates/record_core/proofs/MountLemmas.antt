-- Master records, and that an image mounts to one map.
use Rattle.std.proofs.Common.{◌≡◌, ℕ, ◌+◌, ◌<◌, ◌≤◌, ◌^◌, List, [], ◌∷◌, ◌++◌, length, take, get_or, refl, sym, ◌∙◌, ap, subst, arith, Some, None, add-zero}
use Rattle.std.specs.Prelude.{Option}
use Rattle.flash_core.specs.declared.geometry.Geometry.{Geometry}
use Rattle.flash_core.specs.Images.{part, put}
use Rattle.flash_core.specs.Sizes.{area_size}
use Rattle.flash_core.proofs.ImageLaws.{get_or-part, part-put_same}
use Rattle.kv_model.specs.FlaggedMap.{FlaggedMap}
use Rattle.kv_model.specs.Write.{Write, map_of}
use Rattle.kv_model.specs.Keys.{master_key}
use Rattle.base_core.specs.Units.{up}
use Rattle.base_core.specs.Sizes.{master_size}
use Rattle.base_core.proofs.UnitLemmas.{up-ge}
use Rattle.record_core.specs.Record.{header_of, IsMaster, master_bytes, master_value}
use Rattle.record_core.specs.Log.{AreRecords, extent}
use Rattle.record_core.specs.Mounts.{MasterAt, active_area, ActiveRecords, Contents, Holds, Mounts, Stand, active_reads, master_reads, reads_of, record_reads}
use Rattle.record_core.proofs.HeaderLemmas.{same_u16}
use Rattle.record_core.proofs.RecordLemmas.{length-record_bytes, part-header, part-part, part-value}
use Rattle.record_core.proofs.LogLemmas.{first_byte, one_list}

module _ (prog : ℕ) (positive : 1 ≤ prog) where
  pub length-master_bytes : (version : ℕ) → length (master_bytes prog version) ≡ master_size prog
  length-master_bytes version = length-record_bytes prog positive 0 master_key (master_value version)

  -- two masters of the same bytes have one version
  pub one_master : (bytes : List ℕ) (v w : ℕ) → IsMaster prog v bytes → IsMaster prog w bytes → v ≡ w
  one_master bytes v w is_v is_w =
      let value : master_value v ≡ master_value w =
      sym (part-value prog 0 master_key (master_value v) positive)
      ∙ ap (λ (l : List ℕ). part l (up prog 24 + 4) 8) (sym is_v.spelling ∙ is_w.spelling)
      ∙ part-value prog 0 master_key (master_value w) positive in
      same_u16 v w is_v.in_range is_w.in_range (ap (take 2) value)

  -- a master record that was programmed stands
  pub IsMaster-put : (image : List ℕ) (area version : ℕ) → version < 2 ^ 16 → area + master_size prog ≤ length image → IsMaster prog version (part (put image area (master_bytes prog version)) area (master_size prog))
  IsMaster-put image area version in_range fits =
      let long : length (master_bytes prog version) ≡ master_size prog = length-master_bytes version in
      record {
        in_range = in_range;
        spelling =
            ap (part (put image area (master_bytes prog version)) area) (sym long)
            ∙ part-put_same image area (master_bytes prog version) (omega (arith, fits, long));
      }

  -- where the first byte is erased there is no master record
  pub no_master_erased : (image : List ℕ) (area version : ℕ) → get_or image area 0 ≡ 255 → IsMaster prog version (part image area (master_size prog)) → ⊥
  no_master_erased image area version erased is =
      let in_master : 24 ≤ master_size prog = omega (arith, up-ge prog 24 positive) in
      let header = ap (λ (l : List ℕ). part l 0 24) is.spelling ∙ part-header prog 0 master_key (master_value version) in
      let magic : get_or (part (part image area (master_size prog)) 0 24) 0 0 ≡ 75 =
      ap (λ (l : List ℕ). get_or l 0 0) header ∙ first_byte (header_of 0 master_key (master_value version)) in
      let byte : get_or (part (part image area (master_size prog)) 0 24) 0 0 ≡ get_or image area 0 =
      ap (λ (l : List ℕ). get_or l 0 0) (part-part image area (master_size prog) 0 24 in_master)
      ∙ get_or-part image (area + 0) 24 0 (omega arith) ∙ ap (λ (p : ℕ). get_or image p 0) (add-zero (area + 0) ∙ add-zero area) in
      omega (arith, magic, byte, erased)

  pub one_version : (image : List ℕ) (area : ℕ) (v w : Option ℕ) → MasterAt prog image area v → MasterAt prog image area w → v ≡ w
  one_version image area None None is_v is_w = refl
  one_version image area None (Some w) is_v is_w = absurd (is_v w is_w)
  one_version image area (Some v) None is_v is_w = absurd (is_w v is_v)
  one_version image area (Some v) (Some w) is_v is_w = ap Some (one_master _ v w is_v is_w)

one_active : (g : Geometry) (image : List ℕ) → 1 ≤ g.prog → (active : Option ℕ) (end other_end : ℕ) (rs ss : List Write) → ActiveRecords g image active end rs → ActiveRecords g image active other_end ss → (rs ≡ ss) × (end ≡ other_end)
one_active g image positive None end other_end rs ss is other = (is.0 ∙ sym other.0, is.1 ∙ sym other.1)
one_active g image positive (Some area) end other_end rs ss is other =
    one_list g.prog positive image _ _ end other_end rs ss is other

-- an image holds one thing
pub one_contents : (g : Geometry) (image : List ℕ) → 1 ≤ g.prog → (a b : Contents) → Holds g image a → Holds g image b → a ≡ b
one_contents g image positive a b holds_a holds_b =
    let first : a.first ≡ b.first = one_version g.prog positive image 0 a.first b.first holds_a.first_master holds_b.first_master in
    let second : a.second ≡ b.second = one_version g.prog positive image (area_size g) a.second b.second holds_a.second_master holds_b.second_master in
    let active : active_area b.first b.second ≡ active_area a.first a.second = λ i. active_area (sym first i) (sym second i) in
    let log = one_active g image positive (active_area a.first a.second) a.end b.end a.records b.records holds_a.active
    (subst (λ (number : Option ℕ). ActiveRecords g image number b.end b.records) active holds_b.active) in
    λ i. record { first = first i; second = second i; records = log.0 i; end = log.1 i }

pub mounts_once : (g : Geometry) (image : List ℕ) → 1 ≤ g.prog → (m n : FlaggedMap) → Mounts g image m → Mounts g image n → m ≡ n
mounts_once g image positive m n of_m of_n =
    of_m.2 ∙ ap (λ (c : Contents). map_of c.records) (one_contents g image positive of_m.0 of_n.0 of_m.1 of_n.1) ∙ sym of_n.2

-- ---- what mounting reads

Stand-append : (image : List ℕ) (a b : List (ℕ × List ℕ)) → Stand image a → Stand image b → Stand image (a ++ b)
Stand-append image [] b stand more = more
Stand-append image (read ∷ a) b stand more = (stand.0, Stand-append image a b stand.1 more)

module _ (prog : ℕ) (positive : 1 ≤ prog) (image : List ℕ) where
  pub masters_stand : (area : ℕ) (version : Option ℕ) → MasterAt prog image area version → Stand image (master_reads prog area version)
  masters_stand area None none = tt
  masters_stand area (Some version) is = (ap (part image area) (length-master_bytes prog positive version) ∙ is.spelling, tt)

  pub records_stand : (place end : ℕ) (rs : List Write) → AreRecords prog image place end rs → Stand image (record_reads prog place rs)
  records_stand place end [] is = tt
  records_stand place end (r ∷ rs) records =
      (ap (part image place) (length-record_bytes prog positive r.flags r.key r.value) ∙ records.0.spelling, records_stand (place + extent prog r) end rs records.1)

active_stand : (g : Geometry) (image : List ℕ) → 1 ≤ g.prog → (active : Option ℕ) (end : ℕ) (rs : List Write) → ActiveRecords g image active end rs → Stand image (active_reads g active rs)
active_stand g image positive None end rs is = tt
active_stand g image positive (Some area) end rs is = records_stand g.prog positive image _ end rs is.each

-- each master and record that mounting reads stands in the image
pub reads_stand : (g : Geometry) (image : List ℕ) → 1 ≤ g.prog → (contents : Contents) → Holds g image contents → Stand image (reads_of g contents)
reads_stand g image positive contents holds =
    Stand-append image (master_reads g.prog 0 contents.first ++ master_reads g.prog (area_size g) contents.second) (active_reads g (active_area contents.first contents.second) contents.records)
    (Stand-append image (master_reads g.prog 0 contents.first) (master_reads g.prog (area_size g) contents.second)
    (masters_stand g.prog positive image 0 contents.first holds.first_master)
    (masters_stand g.prog positive image (area_size g) contents.second holds.second_master))
    (active_stand g image positive (active_area contents.first contents.second) contents.end contents.records holds.active)
