use Rattle.std.proofs.Common.{◌≡◌, length, refl, rules, ◌∙◌, ap}
use Rattle.std.specs.Prelude.{IfErr}
use Rattle.flash_core.specs.declared.flash.FlashFault.TheVariants.{Write}
use Rattle.flash_core.specs.RecordDevice.{kept}
use Rattle.flash_core.proofs.RecordLaws.{device_failed, device_wrote, leads_kept}
use Rattle.flash_core.proofs.record_flash.RecordFlashFlash.program.Goals as goal

pub returns-in_err-make_room-clause-writes : goal.returns-in_err-make_room-clause-writes
returns-in_err-make_room-clause-writes c =
    let fault : IfErr c.from_residual.result (λ f. f ≡ Write) = search rules in
    device_failed (Unit {0}) c.args.self.now.geometry c.args.self.now.image.items c.args.place c.args.bytes.now c.args.self.now.log c.make_room.new.log c.from_residual.result (length c.args.bytes.now)
    (c.in_err-make_room.ensures.full.0 refl) c.in_err-make_room.ensures.refused c.from_residual.ensures.0 fault

pub invariant_of-self-2 : goal.invariant_of-self-2
invariant_of-self-2 c = record {
  valid = c.args.self.now.valid;
  sized = c.overwrite.ensures.sized ∙ c.args.self.now.sized;
  leads = leads_kept (Unit {0}) c.args.self.now.geometry c.args.self.now.image.items c.args.place c.args.bytes.now c.overwrite.new.image.items c.args.self.now.log c.keep.new.log c.args.self.now.leads c.overwrite.ensures.image
      (c.keep.ensures ∙ ap (λ l. kept l c.args.place c.args.bytes.now) c.in_ok-make_room.ensures.same);
}

pub returns-clause-writes : goal.returns-clause-writes
returns-clause-writes c =
    device_wrote (Unit {0}) c.args.self.now.geometry c.args.self.now.image.items c.args.place c.args.bytes.now c.overwrite.new.image.items c.args.self.now.log c.keep.new.log tt c.args.self.now.leads c.overwrite.ensures.image
    (c.keep.ensures ∙ ap (λ l. kept l c.args.place c.args.bytes.now) c.in_ok-make_room.ensures.same)
