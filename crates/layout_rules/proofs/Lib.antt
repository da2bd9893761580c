mod LayoutExamples
mod BlockExamples
