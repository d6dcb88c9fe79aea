use Rattle.std.proofs.Common.{ap, refl, sym, subst}
use Rattle.secure_record.specs.declared.body.BodyStream.{BodyStream}
use Rattle.secure_record.specs.States.{OpenState}
use Rattle.secure_record.specs.Streams.{HasTaken}
use Rattle.secure_record.proofs.BodyLemmas.{next_piece}
use Rattle.secure_record.proofs.open.OpenStream.absorb.Goals as goal

pub returns-clause-pieces : goal.returns-clause-pieces
returns-clause-pieces c root key front h =
    let m = c.args.self.now.metadata in
    let body = subst (λ (b : BodyStream). HasTaken b root key m front) (sym (ap (λ (s : OpenState). s.body) c.self.view_is)) h.body in
    next_piece c.self.inside.body root key m front front c.args.buf.now c.open.new.buf body refl c.open.ensures.text
