-- The digest of a process, by the text of its definition.
use Rattle.std.proofs.Common.{◌≡◌, ℕ, Bool, true, false, Option, Some, None, List, ◌++◌, length, sym, ap, ◌∙◌}
use Rattle.std.specs.Prelude.{if◌then◌else◌, flat_map, option_map}
use Rattle.std.specs.Int.{w32, to_be_bytes}
use Rattle.sha2.specs.Sha256.{sha256}
use Rattle.sha2.specs.declared.Sha256.{Sha256}
use Rattle.sha2.specs.Hashers.{Holds256}
use Rattle.wc_value.specs.Spelling.{spelling, pair_of}
use Rattle.wc_value.specs.declared.value.Value.{Value}
use Rattle.wc_syntax.specs.declared.definition.Definition.{Definition}
use Rattle.wc_syntax.specs.Printing.{printed_definition}
use Rattle.wc_graph.specs.declared.node.NodeKind.{NodeKind}
use Rattle.wc_graph.specs.declared.link.Link.{Link}
use Rattle.wc_state.specs.declared.record.ProcessRecord.{ProcessRecord}
use Rattle.wc_keys.specs.Hashing.{Adds}
use Rattle.wc_keys.specs.SealKeys.{key_start, key_value}
use Rattle.wc_keys.proofs.Added.{adds_both}
use Rattle.wc_keys.proofs.KeySpelled.{key_spelled}
use Rattle.wc_fits.specs.World.{Known}
use Rattle.wc_fits.specs.Records.{definition_in}
use Rattle.wc_keys.specs.Beginnings.{text_at, IsDigestOf}
use Rattle.wc_keys.specs.Keys.{is_finished_calculation, digest_by}
use Rattle.wc_keys.specs.Ports.{plain_inputs}

module _ (nodes : List NodeKind) (links : List Link) (libraries : List Known) (r : ProcessRecord) where
  abbrev key_of : Definition → List ℕ
  key_of d = spelling (key_value (printed_definition d) (plain_inputs nodes r.node links))

  by_text : (o : Option Definition) (t : Option (List ℕ)) → option_map printed_definition o ≡ t
      → option_map sha256 (option_map key_of o) ≡ option_map (λ (text : List ℕ). sha256 (spelling (key_value text (plain_inputs nodes r.node links)))) t
  by_text None t h = ap (option_map (λ (text : List ℕ). sha256 (spelling (key_value text (plain_inputs nodes r.node links))))) h
  by_text (Some d) t h = ap (option_map (λ (text : List ℕ). sha256 (spelling (key_value text (plain_inputs nodes r.node links))))) h

  -- the digest is that of the key that the definition's text makes, where there is one
  pub digest_told : (t : Option (List ℕ)) → t ≡ (if is_finished_calculation r then text_at libraries r.library r.definition else None)
      → digest_by nodes links libraries r ≡ option_map (λ (text : List ℕ). sha256 (spelling (key_value text (plain_inputs nodes r.node links)))) t
  digest_told t h = by_test (is_finished_calculation r) h
    where
      by_test : (b : Bool) → t ≡ (if b then text_at libraries r.library r.definition else None)
          → (if b then option_map sha256 (option_map key_of (definition_in libraries r.library r.definition)) else None)
          ≡ option_map (λ (text : List ℕ). sha256 (spelling (key_value text (plain_inputs nodes r.node links)))) t
      by_test true e = by_text (definition_in libraries r.library r.definition) t (sym e)
      by_test false e = ap (option_map (λ (text : List ℕ). sha256 (spelling (key_value text (plain_inputs nodes r.node links))))) (sym e)

  -- a text that is there is that of its definition
  pub text_is : (t : List ℕ) → Some t ≡ (if is_finished_calculation r then text_at libraries r.library r.definition else None) → text_at libraries r.library r.definition ≡ Some t
  text_is t h = by_test (is_finished_calculation r) h
    where
      by_test : (b : Bool) → Some t ≡ (if b then text_at libraries r.library r.definition else None) → text_at libraries r.library r.definition ≡ Some t
      by_test true e = sym e
      by_test false e = absurd (cc)

-- ---- the parts of a key, hashed one after another

-- what is hashed behind the beginning of a key makes the digest of the key
pub parts_digested : (inputs : List (List ℕ × Value)) (count : ℕ) (begun counted whole : Sha256) (digest : List ℕ) → count ≡ length inputs
    → Adds begun (to_be_bytes w32 count) counted → Adds counted (flat_map pair_of inputs) whole → ((message : List ℕ) → Holds256 whole message → digest ≡ sha256 message)
    → IsDigestOf inputs begun digest
parts_digested inputs count begun counted whole digest is one other told = λ text start.
    told (key_start text ++ (to_be_bytes w32 count ++ flat_map pair_of inputs))
    ((adds_both begun counted whole (to_be_bytes w32 count) (flat_map pair_of inputs) one other).holds (key_start text) start)
    ∙ ap sha256 (ap (λ (n : ℕ). key_start text ++ (to_be_bytes w32 n ++ flat_map pair_of inputs)) is ∙ sym (key_spelled text inputs))
