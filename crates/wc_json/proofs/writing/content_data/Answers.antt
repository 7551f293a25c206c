use Rattle.wc_json.proofs.Contents.{text_content, hex_content}
use Rattle.wc_json.proofs.writing.content_data.Goals as goal

pub returns-in_ok-from_str-in-Ok : goal.returns-in_ok-from_str-in-Ok
returns-in_ok-from_str-in-Ok c = text_content _ _ _ _ c.in_ok-from_str-in-Ok.ensures.ok c.in-Ok.ensures.cases.0 c.in-Ok.ensures.cases.1 c.bytes.ensures.value

pub returns-in-Err : goal.returns-in-Err
returns-in-Err c = hex_content _ _ _ _ c.in-Err.ensures.cases.0 c.bytes.ensures.value c.bytes-in-Err.ensures.value c.hex_data.ensures
