use Rattle.std.proofs.Common.{◌≡◌, ℕ, List, ◌++◌, length, take, sym, ap, ◌∙◌, subst, arith}
use Rattle.std.specs.Prelude.{Some, None}
use Rattle.kv_model.specs.declared.flags.Flags.{Flags}
use Rattle.secure_record.specs.declared.metadata.Metadata.{Metadata}
use Rattle.secure_record.specs.Metadata.{metadata_of}
use Rattle.secure_record.specs.Streams.{record_read}
use Rattle.secure_record.specs.Unseal.{opened_as, unseal}
use Rattle.cipher_check.proofs.OpeningLemmas.{IsCut, head_cut, is_opening, read_is}
use Rattle.cipher_check.proofs.records.open_in_two.Goals as goal

pub returns-in-Err : goal.returns-in-Err
returns-in-Err c =
    let whole : List ℕ = c.args.sealed.now in
    let head : take c.min.result whole ≡ take 40 whole = head_cut whole c.min.result c.min.ensures in (
      c.metadata_divides_records.ensures.none c.args.root.now c.args.key.now whole
          (ap (λ (xs : List ℕ). metadata_of xs (length whole)) (sym head) ∙ c.in-Err.ensures.0),
      c.in-Err.ensures.1,
    )

pub returns-in-Ok-finish : goal.returns-in-Ok-finish
returns-in-Ok-finish c =
    let root : List ℕ = c.args.root.now in
    let key : List ℕ = c.args.key.now in
    let whole : List ℕ = c.args.sealed.now in
    let m : Metadata = c.in-Ok.stream.metadata in
    let bytes : List ℕ = c.split_at_mut-bytes.result.0.now in
    let last : List ℕ = c.split_at_mut-bytes.result.1.now in
    let head : take c.min.result whole ≡ take 40 whole = head_cut whole c.min.result c.min.ensures in
    let found : metadata_of (take 40 whole) (length whole) ≡ Some m = ap (λ (xs : List ℕ). metadata_of xs (length whole)) (sym head) ∙ c.in-Ok.ensures.found in
    let cut : IsCut whole c.split_at_mut-behind.result.0.now bytes last m = record {
      parts = c.metadata_divides_records.ensures.parts whole m found;
      joined = c.split_at_mut-behind.ensures.value ∙ ap (λ (xs : List ℕ). c.split_at_mut-behind.result.0.now ++ xs) c.split_at_mut-bytes.ensures.value;
      front_long = c.split_at_mut-behind.ensures.front_len ∙ c.head_size.ensures;
      bytes_long = c.split_at_mut-bytes.ensures.front_len ∙ c.size.ensures;
    } in
    let opened = c.absorb_in_two.ensures.opened root key c.in-Ok.ensures.opened in
    let value = c.absorb_in_two.ensures.value root key c.in-Ok.ensures.opened in
    let ends = c.in-Ok-finish.ensures root key bytes opened in
    let by_tag = subst (λ (t : List ℕ). unseal root key (record_read c.absorb_in_two.new.stream.metadata bytes t) ≡ Some (opened_as root key c.absorb_in_two.new.stream.metadata bytes)) c.copy_from_slice.ensures.after ends.2 in
    let by_metadata = subst (λ (n : Metadata). unseal root key (record_read n bytes last) ≡ Some (opened_as root key n bytes)) c.absorb_in_two.ensures.metadata by_tag in
    is_opening root key whole _ bytes last c.absorb_in_two.new.bytes m _ cut c.head_size.ensures c.size.ensures (ap (λ (f : Flags). f.bits) c.flags.ensures) value (omega arith) by_metadata

pub returns-in-Err-finish : goal.returns-in-Err-finish
returns-in-Err-finish c =
    let root : List ℕ = c.args.root.now in
    let key : List ℕ = c.args.key.now in
    let whole : List ℕ = c.args.sealed.now in
    let m : Metadata = c.in-Ok.stream.metadata in
    let bytes : List ℕ = c.split_at_mut-bytes.result.0.now in
    let last : List ℕ = c.split_at_mut-bytes.result.1.now in
    let head : take c.min.result whole ≡ take 40 whole = head_cut whole c.min.result c.min.ensures in
    let found : metadata_of (take 40 whole) (length whole) ≡ Some m = ap (λ (xs : List ℕ). metadata_of xs (length whole)) (sym head) ∙ c.in-Ok.ensures.found in
    let cut : IsCut whole c.split_at_mut-behind.result.0.now bytes last m = record {
      parts = c.metadata_divides_records.ensures.parts whole m found;
      joined = c.split_at_mut-behind.ensures.value ∙ ap (λ (xs : List ℕ). c.split_at_mut-behind.result.0.now ++ xs) c.split_at_mut-bytes.ensures.value;
      front_long = c.split_at_mut-behind.ensures.front_len ∙ c.head_size.ensures;
      bytes_long = c.split_at_mut-bytes.ensures.front_len ∙ c.size.ensures;
    } in
    let opened = c.absorb_in_two.ensures.opened root key c.in-Ok.ensures.opened in
    let ends = c.in-Err-finish.ensures root key bytes opened in
    let by_tag = subst (λ (t : List ℕ). unseal root key (record_read c.absorb_in_two.new.stream.metadata bytes t) ≡ None) c.copy_from_slice.ensures.after ends.2 in
    let by_metadata = subst (λ (n : Metadata). unseal root key (record_read n bytes last) ≡ None) c.absorb_in_two.ensures.metadata by_tag in
    (ap (unseal root key) (sym (read_is whole _ bytes last m cut)) ∙ by_metadata, ends.0)
