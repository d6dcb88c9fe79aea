use Rattle.std.proofs.Common.{◌≡◌, ◌+◌, ◌*◌, ◌<◌, ◌≤◌, List, ℕ, length, replicate, sym, ◌∙◌, ap, arith}
use Rattle.std.specs.Prelude.{Option}
use Rattle.std.proofs.lemmas.List.{length-replicate}
use Rattle.base_core.specs.Units.{IsMultipleOf}
use Rattle.base_core.proofs.UnitLemmas.{IsMultipleOf-mul, unit_fits}
use Rattle.flash_core.specs.declared.geometry.Geometry.{Geometry}
use Rattle.flash_core.specs.Images.{part, put}
use Rattle.flash_core.specs.RecordDevice.{kept}
use Rattle.flash_core.specs.Sizes.{size_of}
use Rattle.flash_core.specs.WriteLog.{LogState}
use Rattle.flash_core.proofs.ImageLaws.{part-put_same}
use Rattle.flash_core.proofs.RecordLaws.{device_wrote, leads_kept}
use Rattle.flash_core.proofs.record_flash.RecordFlashFlash.erase.Goals as goal

-- the unit lies in the image
unit_in : (g : Geometry) (image : List ℕ) (place : ℕ) → IsMultipleOf g.erase place → place < size_of g → length image ≡ size_of g → place + g.erase ≤ length image
unit_in g image place aligned inside sized =
    let whole = IsMultipleOf-mul g.erase (2 * g.units_per_area) in
    omega (arith, unit_fits g.erase place (size_of g) aligned whole inside, sized)

-- the log keeps an erased unit
kept_is : (image now range unit : List ℕ) (place n : ℕ) (log log_now log_end : Option LogState) → place + n ≤ length image → now ≡ put image place (replicate n 255) → range ≡ now → unit ≡ part range place n → log_now ≡ log → log_end ≡ kept log_now place unit
    → log_end ≡ kept log place (replicate n 255)
kept_is image now range unit place n log log_now log_end inside now_is range_is unit_is same end_is =
    let long : length (replicate {A = ℕ} n 255) ≡ n = length-replicate n 255 in
    let read : unit ≡ replicate n 255 =
    unit_is
    ∙ ap (λ (l : List ℕ). part l place n) (range_is ∙ now_is)
    ∙ ap (part (put image place (replicate n 255)) place) (sym long)
    ∙ part-put_same image place (replicate n 255) (omega (arith, long)) in
    end_is ∙ ap (λ (l : Option LogState). kept l place unit) same ∙ ap (kept log place) read

pub clear-requires : goal.clear-requires
clear-requires c = unit_in c.args.self.now.geometry c.args.self.now.image.items c.args.place c.requires.place_aligned c.requires.inside c.args.self.now.sized

pub invariant_of-self-2 : goal.invariant_of-self-2
invariant_of-self-2 c =
    let device = c.args.self.now in
    let inside = unit_in device.geometry device.image.items c.args.place c.requires.place_aligned c.requires.inside device.sized in
    let log_is = kept_is device.image.items c.clear.new.image.items c.deref.result.now c.range_of.result.now c.args.place device.geometry.erase device.log c.make_room.new.log c.keep.new.log
    inside c.clear.ensures.image c.deref.ensures.value c.range_of.ensures c.in_ok-make_room.ensures.same c.keep.ensures in
    record {
      valid = device.valid;
      sized = c.clear.ensures.sized ∙ device.sized;
      leads = leads_kept (Unit {0}) device.geometry device.image.items c.args.place (replicate device.geometry.erase 255) c.clear.new.image.items device.log c.keep.new.log device.leads c.clear.ensures.image log_is;
    }

pub returns-clause-writes : goal.returns-clause-writes
returns-clause-writes c =
    let device = c.args.self.now in
    let inside = unit_in device.geometry device.image.items c.args.place c.requires.place_aligned c.requires.inside device.sized in
    let log_is = kept_is device.image.items c.clear.new.image.items c.deref.result.now c.range_of.result.now c.args.place device.geometry.erase device.log c.make_room.new.log c.keep.new.log
    inside c.clear.ensures.image c.deref.ensures.value c.range_of.ensures c.in_ok-make_room.ensures.same c.keep.ensures in
    device_wrote (Unit {0}) device.geometry device.image.items c.args.place (replicate device.geometry.erase 255) c.clear.new.image.items device.log c.keep.new.log tt device.leads c.clear.ensures.image log_is
